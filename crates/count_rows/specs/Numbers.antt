-- The numbers in a column of counts.
use Rattle.std.specs.Prelude.{ℕ, ◌+◌, ◌*◌, ◌-◌, ◌^◌, List, [], ◌∷◌, Bool, ◌&&◌, if◌then◌else◌, nat_le, Option, Some, None}
use Rattle.std.specs.List.{list_all}

-- the most that the counts of a table may come to
abbrev pub most_counted : ℕ
most_counted = 10 ^ 15

-- one of the bytes 0 to 9
abbrev pub is_digit : ℕ → Bool
is_digit b = nat_le 48 b && nat_le b 57

-- the number that the digits go on to, after those of n
abbrev pub value_after : ℕ → List ℕ → ℕ
value_after n [] = n
value_after n (b ∷ bs) = value_after (10 * n + (b - 48)) bs

-- the value of one or more decimal digits, up to 10 ^ 15
abbrev pub count_in : List ℕ → Option ℕ
count_in [] = None
count_in (b ∷ bs) = if list_all is_digit (b ∷ bs) && nat_le (value_after 0 (b ∷ bs)) most_counted then (Some (value_after 0 (b ∷ bs))) else None
