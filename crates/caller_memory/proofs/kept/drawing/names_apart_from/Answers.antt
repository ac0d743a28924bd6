use Rattle.std.proofs.Common.{◌≡◌, ℕ, true, not, ap, subst, ◌∙◌, ◌++◌, ◌∷◌, [], List, arith, sym, length, rules}
use Rattle.std.proofs.lemmas.Bool.{not_from_true, not_from_false}
use Rattle.std.proofs.lemmas.Option.{get_or_from_slice_get}
use Rattle.std.specs.Prelude.{IfOk}
use Rattle.mixed_graph.specs.Vocabulary.{has, is_named}
use Rattle.mixed_graph.proofs.Masks.{has-zero}
use Rattle.mixed_graph.proofs.Members.{length-members-le}
use Rattle.latent_projection.specs.Vocabulary.{observed_below, names_at}
use Rattle.latent_projection.proofs.KeptNames.{names_at-none, names_at-more, names_at-same, not_named, length-names_at, all_names}
use Rattle.caller_memory.proofs.kept.drawing.names_apart_from.Goals as goal
use Rattle.caller_memory.proofs.kept.drawing.names_apart_from.Goals.{then-not-has+in_ok-add_new, else-not-has}

pub returns-then-is_empty-clause-names : goal.returns-then-is_empty-clause-names
returns-then-is_empty-clause-names c =
    let every : (v : ℕ) → not (has c.args.latent.bits v) ≡ true = λ v. ap not (ap (λ m. has m v) (c.is_empty.ensures.none.0 c.if-is_empty.true) ∙ has-zero v) in
    subst (λ (l : List (List ℕ)). IfOk c.copied.result (λ kept. kept ≡ l)) (sym (all_names (λ v. not (has c.args.latent.bits v)) every c.args.names.now))
    c.copied.ensures.same

pub loop-v-init : goal.loop-v-init
loop-v-init c = c.empty-kept.ensures ∙ sym (names_at-none (λ v. not (has c.args.latent.bits v)) c.args.names.now)

-- each name is new, and there is room for it
pub returns-in_err-add_new-clause-all : goal.returns-in_err-add_new-clause-all
returns-in_err-add_new-clause-all c = λ refused.
    let below = c.count-n.ensures.count in
    let fresh = ap (λ (names : List (List ℕ)). is_named names c.get.result.now) c.loop-v.invariant
    ∙ ap (λ name. is_named (names_at (observed_below (has c.args.latent.bits) c.loop-v.v) c.args.names.now) name)
    (sym (get_or_from_slice_get c.args.names.now c.loop-v.v c.get.result.now [] c.get.ensures.name))
    ∙ not_named (λ v. not (has c.args.latent.bits v)) c.loop-v.v c.loop-v.v c.args.names.now c.count-n.ensures.names (omega arith) (omega (arith, below)) in
    let size = ap (λ (names : List (List ℕ)). length names) c.loop-v.invariant
    ∙ length-names_at (observed_below (has c.args.latent.bits) c.loop-v.v) c.args.names.now in
    let few = c.count-n.ensures.names.few in
    let q = length-members-le (λ v. not (has c.args.latent.bits v)) c.loop-v.v in
    c.in_err-add_new.ensures.refused (search rules) c.get.ensures.formed fresh (omega (arith, size, q, few, below))

pub loop-v-preserved : goal.loop-v-preserved
loop-v-preserved c = elim c.if-not-has.branch [
  | then-not-has+in_ok-add_new w ↦ w.kept-is ∙ w.in_ok-add_new.ensures.added ∙ ap (λ (names : List (List ℕ)). names ++ w.get.result.now ∷ []) c.loop-v.invariant
      ∙ sym (names_at-more (λ v. not (has c.args.latent.bits v)) c.loop-v.v c.args.names.now w.get.result.now
      (not_from_false (has c.args.latent.bits c.loop-v.v) (sym c.has.ensures ∙ w.if-not-has.true)) w.get.ensures.name)
  | else-not-has w ↦ w.kept-is ∙ c.loop-v.invariant
      ∙ sym (names_at-same (λ v. not (has c.args.latent.bits v)) c.loop-v.v c.args.names.now
      (not_from_true (has c.args.latent.bits c.loop-v.v) (sym c.has.ensures ∙ w.if-not-has.false)))
]
