-- P(y under do(x) at s | x, z as observed at t) for a treatment of two levels, of what is observed and of the joint effect: a world that shows a level is as
-- where it is set (consistency: Pearl, Causality, chapter 7.3.1), and who hasn't the one level has the other.
use Rattle.std.specs.Prelude.{ℕ, ◌≡◌, Bool, false, not, ◌&&◌, ◌==◌, if◌then◌else◌, []}
use Rattle.mixed_graph.specs.Vocabulary.{has, union}
use Rattle.fractions.specs.Vocabulary.{Fraction, div}
use Rattle.finite_models.specs.Vocabulary.{agree}
use Rattle.prob_expr.specs.Tree.{prob}
use Rattle.prob_expr.specs.Vocabulary.{PlainFormula, Weights, value_of}
use Rattle.differences.specs.Vocabulary.{IsAtMost, minus}
use Rattle.count_eval.specs.Vocabulary.{is_supported}
use Rattle.factor_values.specs.Vocabulary.{chance_of}

-- the formula P(of | given)
abbrev pub share_of : (of given : ℕ) → PlainFormula
share_of of given = record { defs = []; main = prob of 0 given }

-- the vertices of x have the same levels in both
abbrev pub is_same : (n x : ℕ) → (s t : ℕ → ℕ) → Bool
is_same n x s t = agree n (has x) s t

-- P(x, y, z): those who have the levels that are set
abbrev pub shown_of : (x y z : ℕ) → PlainFormula
shown_of x y z = chance_of (union (union x y) z)

-- P(y, z under do(x)) - P(x, y, z): what is left of the joint effect to those who have the other level
abbrev pub left_value : Weights → (x y z : ℕ) → PlainFormula → (ℕ → ℕ) → Fraction
left_value w x y z joint s = minus (value_of w joint s) (value_of w (shown_of x y z) s)

-- the value: of those who have the level that is set P(y | x, z), and of those who have the other one what is left, over P(x, z)
abbrev pub split_value : Weights → (x y z : ℕ) → PlainFormula → (s t : ℕ → ℕ) → Fraction
split_value w x y z joint s t =
    if is_same w.vertices x s t then value_of w (share_of y (union x z)) s else div (left_value w x y z joint s) (value_of w (chance_of (union x z)) t)

-- what is taken off is at most the joint effect, where something is
abbrev pub IsNotBelow : Weights → (x y z : ℕ) → PlainFormula → (s t : ℕ → ℕ) → Type 0
IsNotBelow w x y z joint s t = is_same w.vertices x s t ≡ false → IsAtMost (value_of w (shown_of x y z) s) (value_of w joint s)

-- whether there is a value: no denominator that is met is 0
abbrev pub split_supported : Weights → (x y z : ℕ) → PlainFormula → (s t : ℕ → ℕ) → Bool
split_supported w x y z joint s t =
    if is_same w.vertices x s t then is_supported w (share_of y (union x z)) s
    else is_supported w joint s && (is_supported w (shown_of x y z) s
    && (is_supported w (chance_of (union x z)) t && not ((value_of w (chance_of (union x z)) t).top == 0)))
