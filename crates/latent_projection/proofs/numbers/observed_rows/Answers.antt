use Rattle.std.proofs.Common.{◌≡◌, not, ◌∙◌, arith, sym, subst}
use Rattle.std.proofs.lemmas.Bool.{not_from_true, not_from_false}
use Rattle.mixed_graph.specs.Vocabulary.{has}
use Rattle.mixed_graph.proofs.Members.{length-members-le}
use Rattle.latent_projection.proofs.Numbering.{AreNewRows, AreNewRows-none, AreNewRows-more, AreNewRows-same, new_rows_whole}
use Rattle.latent_projection.proofs.numbers.observed_rows.Goals as goal
use Rattle.latent_projection.proofs.numbers.observed_rows.Goals.{then-not-has, else-not-has}

pub loop-v-init : goal.loop-v-init
loop-v-init c = AreNewRows-none _ _ _

pub offset_bounds-out-place : goal.offset_bounds-out-place
offset_bounds-out-place c = let p = c.loop-v.invariant.place_is in let q = length-members-le (λ v. not (has c.args.latent.bits v)) c.loop-v.v in
    omega (arith, p, q)

pub bounds-out-place : goal.bounds-out-place
bounds-out-place c = let p = c.loop-v.invariant.place_is in let q = length-members-le (λ v. not (has c.args.latent.bits v)) c.loop-v.v in omega (arith, p, q)

pub overflow_add-place : goal.overflow_add-place
overflow_add-place c = let p = c.loop-v.invariant.place_is in let q = length-members-le (λ v. not (has c.args.latent.bits v)) c.loop-v.v in omega (arith, p, q)

pub loop-v-preserved : goal.loop-v-preserved
loop-v-preserved c = elim c.if-not-has.branch [
  | then-not-has w ↦ AreNewRows-more _ c.args.n c.args.rows.now c.loop-v.v c.loop-v.place w.renumber.result.bits c.loop-v.out c.if-not-has.place
      c.if-not-has.out
      c.requires (omega arith) (not_from_false (has c.args.latent.bits c.loop-v.v) (sym c.has.ensures ∙ w.if-not-has.true))
      (rw w.row.ensures at w.renumber.ensures) w.place-is w.out-is c.loop-v.invariant
  | else-not-has w ↦ AreNewRows-same _ c.args.n c.args.rows.now c.loop-v.v c.loop-v.place c.loop-v.out c.if-not-has.place c.if-not-has.out
      (not_from_true (has c.args.latent.bits c.loop-v.v) (sym c.has.ensures ∙ w.if-not-has.false)) w.place-is w.out-is c.loop-v.invariant
]

pub returns : goal.returns
returns c = let e : c.loop-v.v ≡ c.args.n = omega arith in
    new_rows_whole (λ v. not (has c.args.latent.bits v)) c.args.n c.args.rows.now c.loop-v.place c.loop-v.out
    (subst (λ k. AreNewRows (λ v. not (has c.args.latent.bits v)) c.args.n c.args.rows.now k c.loop-v.place c.loop-v.out) e c.loop-v.invariant)
