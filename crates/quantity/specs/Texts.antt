-- The texts of quantities.
use Rattle.std.specs.Prelude.{ℕ, ◌-◌, ◌/◌, ◌%◌, ◌^◌, List, ◌++◌, length, replicate, decimal, codes}
use Rattle.quantity.specs.Kinds.{Pair}

-- p/q, in decimal digits
abbrev pub ratio_text : Pair → List ℕ
ratio_text n = decimal n.first ++ codes "/" ++ decimal n.second

-- the decimal digits of n, with zeros before them up to 18 digits
abbrev pub eighteen_digits : ℕ → List ℕ
eighteen_digits n = replicate (18 - length (decimal n)) 48 ++ decimal n

-- n units of 10 ^ -18: the whole part, a point and 18 digits
abbrev pub units_text : ℕ → List ℕ
units_text n = decimal (n / 10 ^ 18) ++ codes "." ++ eighteen_digits (n % 10 ^ 18)

-- both bounds
abbrev pub bounds_text : Pair → List ℕ
bounds_text n = codes "from " ++ units_text n.first ++ codes " to " ++ units_text n.second
