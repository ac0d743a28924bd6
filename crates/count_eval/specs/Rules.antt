-- How an expression is evaluated: in a kind of quantity, by one of two rules for products.
use Rattle.std.specs.Prelude.{Bool, true, false, Result, Ok, Err, ◌&&◌, if◌then◌else◌}
use Rattle.quantity.specs.declared.fault.QuantityFault.{QuantityFault}
use Rattle.quantity.specs.declared.fault.QuantityFault.TheVariants.{ZeroBelow}
use Rattle.quantity.specs.Vocabulary.{Kind}
use Rattle.quantity.specs.Kinds.{Pair}
use Rattle.count_eval.specs.Stops.{Stop}

-- the kind of quantity; and whether a product with a factor 0 is 0 whatever its other factors are, also where these have no value
pub record Rule : Type 0 where
  pub kind : Kind
  pub zero : Bool

-- the rule of these parts
abbrev pub rule : Kind → Bool → Rule
rule kind zero = record { kind = kind; zero = zero }

-- the first rule: a product has a value only where each factor has one
abbrev pub plain : Kind → Rule
plain kind = rule kind false

-- a zero below
abbrev pub is_zero_below : {A : Type 0} → Result A QuantityFault → Bool
is_zero_below (Err ZeroBelow) = true
is_zero_below r = false

-- the outcome is a value that is 0: 1 over it has a zero below
abbrev pub is_zero : Kind → Result Pair Stop → Bool
is_zero k (Ok c) = is_zero_below (k.div (k.from_ratio 1 1) c)
is_zero k (Err e) = false

-- the product, or 0 in its place where it has no value, the rule says so, and some factor is 0
abbrev pub or_zero : Rule → (some_zero : Bool) → Result Pair Stop → Result Pair Stop
or_zero r some_zero (Ok c) = Ok c
or_zero r some_zero (Err e) = if (r.zero && some_zero) then (Ok (r.kind.from_ratio 0 1)) else Err e
