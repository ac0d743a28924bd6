use Rattle.std.specs.List.{list_all}
use Rattle.std.proofs.Common.{ℕ, ◌≡◌, ◌+◌, ◌*◌, ◌<◌, ◌≤◌, drop, List}
use Rattle.count_rows.specs.Numbers.{is_digit, value_after, most_counted}
use Rattle.count_rows.proofs.digits.read_count.Given as goal

-- the digits so far give the value, or both are over the most
pub record CountsDigits (value : ℕ) (rest all : List ℕ) : Type 0 where
  pub digits : list_all is_digit rest ≡ list_all is_digit all
  pub exact : value ≤ most_counted → value_after value rest ≡ value_after 0 all
  pub over : most_counted < value → most_counted < value_after 0 all
  pub small : value ≤ 10 * most_counted + 9

abbrev pub invariant-loop-b : goal.invariant-loop-b
invariant-loop-b l = CountsDigits l.value (drop l.b-index l.field) l.field
