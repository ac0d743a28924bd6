-- Why an evaluation has no value: the fault of the first node, in evaluation order, that has one.
use Rattle.std.specs.Prelude.{ℕ, Option, Result, Ok, Err}
use Rattle.quantity.specs.declared.fault.QuantityFault.{QuantityFault}
use Rattle.quantity.specs.Kinds.{Pair}

-- the node's definition, or none for the main expression; its number in preorder; the cell there
pub record Stop : Type 0 where
  pub why : QuantityFault
  pub def : Option ℕ
  pub node : ℕ
  pub cell : ℕ → ℕ

-- the stop of these parts
abbrev pub stop : QuantityFault → Option ℕ → ℕ → (ℕ → ℕ) → Stop
stop e d i s = record { why = e; def = d; node = i; cell = s }

-- first r, then f of its value
abbrev pub after : {A B E : Type 0} → Result A E → (A → Result B E) → Result B E
after (Ok a) f = f a
after (Err e) f = Err e

-- the outcome of an operation at a node
abbrev pub placed : Option ℕ → ℕ → (ℕ → ℕ) → Result Pair QuantityFault → Result Pair Stop
placed d i s (Ok c) = Ok c
placed d i s (Err e) = Err (stop e d i s)
