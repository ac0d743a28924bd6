-- Interventional effects (Didelez, Dawid and Geneletti 2006; VanderWeele, Vansteelandt and Robins 2014): y under do(x), where the mediators m are drawn as
-- they are distributed under do(x'), among those with z.
use Rattle.std.specs.Prelude.{ℕ}
use Rattle.mixed_graph.specs.Vocabulary.{has, MixedGraph, union}
use Rattle.fractions.specs.Vocabulary.{Fraction, mul, IsEqual}
use Rattle.finite_models.specs.Vocabulary.{FiniteModel, Fits, IsAssignment, IsPositiveModel}
use Rattle.prob_expr.specs.Vocabulary.{PlainFormula, PlainTarget, Weights, add_over, term_value, value_of, weights_of}
use Rattle.treated_models.specs.Vocabulary.{joined}

-- the effect of x on the mediators: P(m | do(x), z)
abbrev pub on_mediators : (x m z : ℕ) → PlainTarget
on_mediators x m z = record { x = x; y = m; given = z }

-- the effect of x and the mediators on y: P(y | do(x, m), z)
abbrev pub on_outcome : (x m y z : ℕ) → PlainTarget
on_outcome x m y z = record { x = union x m; y = y; given = z }

-- the sum over m of P(m | do(x'), z) * P(y | do(x, m), z), x at s and x' at t; y and z are at s
abbrev pub interventional_effect : Weights → (x m y z : ℕ) → (s t : ℕ → ℕ) → Fraction
interventional_effect w x m y z s t =
    add_over (has m) w.size w.vertices (λ c. mul (term_value w m x z (joined (has x) c t)) (term_value w y (union x m) z c)) s

-- the sum over m of the product of the values of two formulas, x at t in the first and at s in the second
abbrev pub interventional_value : Weights → (x m : ℕ) → (f h : PlainFormula) → (s t : ℕ → ℕ) → Fraction
interventional_value w x m f h s t = add_over (has m) w.size w.vertices (λ c. mul (value_of w f (joined (has x) c t)) (value_of w h c)) s

-- it is the interventional effect in each positive model of the graph, at all assignments
abbrev pub EqualsInterventional : MixedGraph → (x m y z : ℕ) → (f h : PlainFormula) → Type 0
EqualsInterventional g x m y z f h = (w : FiniteModel) → Fits g w → IsPositiveModel w
    → (s t : ℕ → ℕ) → IsAssignment w.vertices w.size s → IsAssignment w.vertices w.size t
    → IsEqual (interventional_value (weights_of w) x m f h s t) (interventional_effect (weights_of w) x m y z s t)
