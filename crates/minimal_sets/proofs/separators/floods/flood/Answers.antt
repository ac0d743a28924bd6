use Rattle.std.proofs.Common.{◌≡◌, ℕ, ◌∙◌, arith, ap, get_or, nat_lt, ◌&&◌, not}
use Rattle.mixed_graph.specs.Vocabulary.{has}
use Rattle.minimal_sets.specs.Rows.{is_near}
use Rattle.minimal_sets.proofs.Flooding.{reached_outside, reached_inside}
use Rattle.mixed_graph.proofs.Masks.{below_64}
use Rattle.minimal_sets.proofs.separators.floods.flood.Goals as goal
use Rattle.minimal_sets.proofs.separators.floods.flood.Goals.{After-difference}

within_is : (c : After-difference) → (v : ℕ) → has c.difference.result.bits v ≡ (nat_lt v 64 && not (has c.args.avoid.bits v))
within_is c v = c.difference.ensures.members v ∙ ap (λ t. t && not (has c.args.avoid.bits v)) (c.below.ensures.members v)

pub returns : goal.returns
returns c = let w = within_is (goal.at.returns c).After-difference in λ v. (
  λ i. reached_outside (is_near c.args.near.now) (has c.args.from.bits) (has c.args.avoid.bits) (has c.difference.result.bits) w v ((c.reached.ensures v).0 i),
  λ r. (c.reached.ensures v).1 (reached_inside (is_near c.args.near.now) (has c.args.from.bits) (has c.args.avoid.bits) (has c.difference.result.bits) w
      (λ u. below_64 c.args.from.bits u (omega arith)) (λ u z. below_64 (get_or c.args.near.now u 0) z (c.fits-near u)) v r),
)
