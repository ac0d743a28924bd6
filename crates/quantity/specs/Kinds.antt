-- A kind of quantity, by what its operations make of the two numbers of a quantity.
use Rattle.std.specs.Prelude.{ℕ, ◌^◌, ◌-◌, List, Result, Ok, Err}
use Rattle.quantity.specs.declared.fault.QuantityFault.{QuantityFault}

-- the two numbers of a quantity
pub record Pair : Type 0 where
  pub first : ℕ
  pub second : ℕ

-- the pair of a and b
abbrev pub pair : ℕ → ℕ → Pair
pair a b = record { first = a; second = b }

-- the quantity of p / q, the sum, the product and the quotient of two quantities or why there is none, and the text of a quantity
pub record Kind : Type 0 where
  pub from_ratio : ℕ → ℕ → Pair
  pub add : Pair → Pair → Result Pair QuantityFault
  pub mul : Pair → Pair → Result Pair QuantityFault
  pub div : Pair → Pair → Result Pair QuantityFault
  pub text : Pair → List ℕ

-- the greatest number that a quantity has
abbrev pub most : ℕ
most = 2 ^ 127 - 1

-- a result, seen as its two numbers
abbrev pub gives : {A : Type 0} → (A → Pair) → Result A QuantityFault → Result Pair QuantityFault
gives numbers (Ok a) = Ok (numbers a)
gives numbers (Err e) = Err e
