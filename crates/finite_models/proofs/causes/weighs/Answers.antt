use Rattle.std.proofs.Common.{◌≡◌, length, get_or, refl, arith}
use Rattle.finite_models.specs.Sums.{sum_below}
use Rattle.finite_models.proofs.Totals.{sum_below-positive, sum_below-zero}
use Rattle.finite_models.proofs.causes.weighs.Goals as goal

pub returns-then-w-gt0 : goal.returns-then-w-gt0
returns-then-w-gt0 c = (λ t. sum_below-positive _ (λ i. get_or c.args.weights.now i 0) c.loop-w.w-index (omega arith) (omega arith), λ h. refl)

pub returns : goal.returns
returns c = (
  λ t. absurd (cc),
  λ h. absurd (let z : sum_below (length c.args.weights.now) (λ i. get_or c.args.weights.now i 0) ≡ 0 =
      sum_below-zero (length c.args.weights.now) (λ i. get_or c.args.weights.now i 0) (λ i l. c.loop-w.invariant i (omega arith)) in omega arith),
)
