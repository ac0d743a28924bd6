-- What a subtraction makes of the two numbers of a quantity.
use Rattle.std.specs.Prelude.{ℕ, ◌*◌, ◌/◌, ◌-◌, ◌&&◌, if◌then◌else◌, nat_le, Option, Some, None, Result, Ok, Err}
use Rattle.quantity.specs.declared.fault.QuantityFault.{QuantityFault}
use Rattle.quantity.specs.declared.fault.QuantityFault.TheVariants.{TooWide}
use Rattle.quantity.specs.Divisors.{lcm_of}
use Rattle.quantity.specs.Kinds.{Pair, pair}
use Rattle.quantity.specs.Vocabulary.{lowest, most}

-- what is left of the first where the second is taken off, none where that is below 0, or why there is none
abbrev pub Subtraction : Type 0
Subtraction = Pair → Pair → Result (Option Pair) QuantityFault

-- p / q - r / s over the bottom l, then in lowest terms: none where it is below 0, and too wide where l or a top over it is
abbrev pub difference_over_bottom : ℕ → ℕ → ℕ → ℕ → ℕ → Result (Option Pair) QuantityFault
difference_over_bottom l p q r s =
    let t = p * (l / q) in let u = r * (l / s) in
    if nat_le l most && (nat_le t most && nat_le u most) then (if nat_le u t then Ok (Some (lowest (t - u) l)) else Ok None) else Err TooWide

-- the difference over the least common multiple of the bottoms
abbrev pub exact_minus : Subtraction
exact_minus a b = difference_over_bottom (lcm_of a.second b.second) a.first a.second b.first b.second

-- the lower bound without the upper one of what is taken off, or 0, and the upper one without the lower one: none where that is below 0
abbrev pub bounds_minus : Subtraction
bounds_minus a b = if nat_le b.first a.second then Ok (Some (pair (a.first - b.second) (a.second - b.first))) else Ok None

-- a result, seen as its two numbers
abbrev pub gives_some : {A : Type 0} → (A → Pair) → Result (Option A) QuantityFault → Result (Option Pair) QuantityFault
gives_some numbers (Ok (Some a)) = Ok (Some (numbers a))
gives_some numbers (Ok None) = Ok None
gives_some numbers (Err e) = Err e
