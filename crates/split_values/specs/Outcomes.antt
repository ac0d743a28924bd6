-- The value in a kind of quantity, none where it would be below 0, or why there is none.
use Rattle.std.specs.Prelude.{ℕ, if◌then◌else◌, Option, Some, None, Result, Ok, Err}
use Rattle.mixed_graph.specs.Vocabulary.{union}
use Rattle.prob_expr.specs.Vocabulary.{PlainFormula, Weights}
use Rattle.quantity.specs.declared.fault.QuantityFault.{QuantityFault}
use Rattle.quantity.specs.Kinds.{Pair}
use Rattle.quantity.specs.Vocabulary.{Kind}
use Rattle.differences.specs.Vocabulary.{Subtraction}
use Rattle.count_eval.specs.Vocabulary.{formula_value, plain, after, placed}
use Rattle.count_eval.specs.Stops.{Stop, stop}
use Rattle.factor_values.specs.Vocabulary.{chance_of}
use Rattle.split_values.specs.Values.{is_same, share_of, shown_of}

-- the outcome of what isn't below 0
abbrev pub as_some : Result Pair Stop → Result (Option Pair) Stop
as_some r = after r (λ c. Ok (Some c))

-- the outcome of the difference: node 0
abbrev pub placed_left : (ℕ → ℕ) → Result (Option Pair) QuantityFault → Result (Option Pair) Stop
placed_left s (Ok left) = Ok left
placed_left s (Err e) = Err (stop e None 0 s)

-- P(y | x, z)
abbrev pub same_outcome : Kind → Weights → (x y z : ℕ) → (ℕ → ℕ) → Result (Option Pair) Stop
same_outcome k w x y z s = as_some (formula_value (plain k) w (share_of y (union x z)) s)

-- what is left of the joint effect
abbrev pub left_outcome : Kind → Subtraction → Weights → (x y z : ℕ) → PlainFormula → (ℕ → ℕ) → Result (Option Pair) Stop
left_outcome k less w x y z joint s =
    after (formula_value (plain k) w joint s) (λ a. after (formula_value (plain k) w (shown_of x y z) s) (λ b. placed_left s (less a b)))

-- its share among those who have the other level: node 0, at their levels
abbrev pub others_outcome : Kind → Weights → (x z : ℕ) → (s t : ℕ → ℕ) → Pair → Result (Option Pair) Stop
others_outcome k w x z s t left = after (formula_value (plain k) w (chance_of (union x z)) t) (λ p. as_some (placed None 0 t (k.div left p)))

-- the same, where something is left
abbrev pub if_left : (Pair → Result (Option Pair) Stop) → Option Pair → Result (Option Pair) Stop
if_left f (Some left) = f left
if_left f None = Ok None

-- the outcome
abbrev pub split_outcome : Kind → Subtraction → Weights → (x y z : ℕ) → PlainFormula → (s t : ℕ → ℕ) → Result (Option Pair) Stop
split_outcome k less w x y z joint s t =
    if is_same w.vertices x s t then same_outcome k w x y z s
    else after (left_outcome k less w x y z joint s) (if_left (others_outcome k w x z s t))
