use Rattle.std.proofs.Common.{ℕ, ◌≤◌, arith}
use Rattle.std.proofs.lemmas.Int.{ints}
use Rattle.std.specs.Prelude.{pos, negsuc, ◌-ℤ◌, ◌≤ℤ◌}
use Rattle.implied_differences.specs.Differences.{left, right}
use Rattle.implied_differences.specs.Laws.{DifferencesFit}
use Rattle.implied_differences.proofs.Agreeing.{left_most, right_most}
use Rattle.implied_differences.proofs.Vanishing.{matched_differences_vanish}
use Rattle.implied_differences.proofs.theory.laws.Goals as goal

fits : (x y : ℕ) → x ≤ 1000000000000000000000000000000 → y ≤ 1000000000000000000000000000000
    → (negsuc 170141183460469231731687303715884105727 ≤ℤ (pos x -ℤ pos y)) × ((pos x -ℤ pos y) ≤ℤ pos 170141183460469231731687303715884105727)
fits x y p q = (omega (arith, ints), omega (arith, ints))

differences_fit : DifferencesFit
differences_fit t are i s = fits (left t i s) (right t i s) (left_most t are i s) (right_most t are i s)

pub returns : goal.returns
returns c = record { matched = matched_differences_vanish; fit = differences_fit }
