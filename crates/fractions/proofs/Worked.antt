-- Worked numbers.
use Rattle.std.proofs.Common.{◌≡◌, refl}
use Rattle.fractions.specs.Fractions.{over, add, mul, div, add_below}

half_and_third : add (over 1 2) (over 1 3) ≡ over 5 6
half_and_third = refl

half_of_third : mul (over 1 2) (over 1 3) ≡ over 1 6
half_of_third = refl

half_by_third : div (over 1 2) (over 1 3) ≡ over 3 2
half_by_third = refl

zero_to_three : add_below 4 (λ i. over i 1) ≡ over 6 1
zero_to_three = refl
