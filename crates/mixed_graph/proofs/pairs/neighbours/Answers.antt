use Rattle.std.proofs.Common.{◌||◌, get_or, ap, ◌∙◌, arith, length-set, inl, inr, ◌≢◌}
use Rattle.std.proofs.lemmas.Bool.{cases_eq}
use Rattle.std.proofs.lemmas.List.{get_or-set_same, get_or-set_other}
use Rattle.mixed_graph.specs.Bits.{has}
use Rattle.mixed_graph.specs.Pairs.{has_pair}
use Rattle.mixed_graph.proofs.Masks.{has-or}
use Rattle.mixed_graph.proofs.pairs.neighbours.Goals as goal

pub loop-v-preserved : goal.loop-v-preserved
loop-v-preserved c = (
  λ a b h. elim (cases_eq a c.loop-v.v) [
    | inl e ↦ rw e (ap (λ x. has x b) (get_or-set_same c.loop-v.masks c.loop-v.v _ 0 (omega arith))
        ∙ has-or (get_or c.loop-v.masks c.loop-v.v 0) (get_or c.tails-back.result c.loop-v.v 0) b
        ∙ ap (λ t. t || has (get_or c.tails-back.result c.loop-v.v 0) b) (c.loop-v.invariant.1 c.loop-v.v b (omega arith))
        ∙ ap (λ t. has_pair c.args.pairs.now c.loop-v.v b || t) (c.tails-back.ensures b c.loop-v.v))
    | inr d ↦ ap (λ x. has x b) (get_or-set_other c.loop-v.masks c.loop-v.v a _ 0 d) ∙ c.loop-v.invariant.0 a b (omega arith)
  ],
  λ a b h. (let d : a ≢ c.loop-v.v = omega arith in
      ap (λ x. has x b) (get_or-set_other c.loop-v.masks c.loop-v.v a _ 0 d) ∙ c.loop-v.invariant.1 a b (omega arith)),
  simp length-set c.loop-v.invariant.2,
)
