use Rattle.std.proofs.Common.{◌≡◌, not, ap, ◌∙◌, ◌||◌, arith, sym}
use Rattle.std.proofs.lemmas.Bool.{not_from_true, not_from_false}
use Rattle.mixed_graph.specs.declared.sets.VSet.{VSet}
use Rattle.mixed_graph.specs.Vocabulary.{has}
use Rattle.mixed_graph.proofs.Members.{length-members-le}
use Rattle.latent_projection.specs.Renumbering.{observed_below, renumbered_set}
use Rattle.latent_projection.proofs.Numbering.{IsRenumbered-none, IsRenumbered-more, IsRenumbered-same}
use Rattle.latent_projection.proofs.numbers.renumber.Goals as goal
use Rattle.latent_projection.proofs.numbers.renumber.Goals.{then-not-has, else-not-has}

pub loop-v-init : goal.loop-v-init
loop-v-init c = IsRenumbered-none _ _ _ c.empty-found.ensures.members

pub one-requires : goal.one-requires
one-requires c = let p = c.loop-v.invariant.place_is in let q = length-members-le (λ v. not (has c.args.latent.bits v)) c.loop-v.v in omega (arith, p, q)

pub overflow_add-place : goal.overflow_add-place
overflow_add-place c = let p = c.loop-v.invariant.place_is in let q = length-members-le (λ v. not (has c.args.latent.bits v)) c.loop-v.v in omega (arith, p, q)

pub loop-v-preserved : goal.loop-v-preserved
loop-v-preserved c = elim c.if-not-has.branch [
  | then-not-has w ↦ IsRenumbered-more _ _ c.loop-v.v c.loop-v.place c.loop-v.found.bits c.if-not-has.place c.if-not-has.found.bits
      (not_from_false (has c.args.latent.bits c.loop-v.v) (sym c.has.ensures ∙ w.if-not-has.true)) w.place-is
      (λ k. ap (λ (x : VSet). has x.bits k) w.found-is ∙ w.union-found.ensures.members k
      ∙ ap (λ b. has c.loop-v.found.bits k || b) (w.only_if.ensures k ∙ (let h = w.has-then-not-has.ensures in let o = w.one.ensures.members k in grind arith)))
      c.loop-v.invariant
  | else-not-has w ↦ IsRenumbered-same _ _ c.loop-v.v c.loop-v.place c.loop-v.found.bits c.if-not-has.place c.if-not-has.found.bits
      (not_from_true (has c.args.latent.bits c.loop-v.v) (sym c.has.ensures ∙ w.if-not-has.false)) w.place-is
      (ap (λ (x : VSet). x.bits) w.found-is) c.loop-v.invariant
]

pub returns : goal.returns
returns c = λ k. c.loop-v.invariant.found k
    ∙ (let e : c.loop-v.v ≡ c.args.n = omega arith in ap (λ n. renumbered_set (observed_below (has c.args.latent.bits) n) (has c.args.s.bits) k) e)
