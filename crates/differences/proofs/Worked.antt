-- Worked numbers.
use Rattle.std.proofs.Common.{◌≡◌, refl, Ok, Some, None}
use Rattle.fractions.specs.Vocabulary.{over}
use Rattle.quantity.specs.Kinds.{pair}
use Rattle.differences.specs.Kinds.{bounds_minus}
use Rattle.differences.specs.Minus.{minus}

half_without_third : minus (over 1 2) (over 1 3) ≡ over 1 6
half_without_third = refl

within : bounds_minus (pair 50 60) (pair 20 30) ≡ Ok (Some (pair 20 40))
within = refl

from_zero : bounds_minus (pair 50 60) (pair 55 70) ≡ Ok (Some (pair 0 5))
from_zero = refl

below : bounds_minus (pair 50 60) (pair 61 70) ≡ Ok None
below = refl
