-- The value of a sum of a product of factors in a kind of quantity, or why there is none.
use Rattle.std.specs.Prelude.{ℕ, List, [], ◌∷◌, Option, None, Result, Ok}
use Rattle.mixed_graph.specs.Vocabulary.{has}
use Rattle.prob_expr.specs.Vocabulary.{Weights}
use Rattle.quantity.specs.Kinds.{Pair}
use Rattle.quantity.specs.Vocabulary.{Kind}
use Rattle.count_eval.specs.Vocabulary.{formula_value, plain, one_more, each_cell, whole, after, placed}
use Rattle.count_eval.specs.Stops.{Stop}
use Rattle.factor_values.specs.Factors.{PlainFactor, PlainFactors, read_at, chance_of}

-- the value of a factor at the levels that it reads
abbrev pub factor_outcome : Kind → Weights → PlainFactor → (s t : ℕ → ℕ) → Result Pair Stop
factor_outcome k w f s t = formula_value (plain k) w f.formula (read_at f.second s t)

-- the product of what there is so far and of factors: node 2
abbrev pub product_from : Kind → Weights → List PlainFactor → (s t : ℕ → ℕ) → Option Pair → Result (Option Pair) Stop
product_from k w [] s t so_far = Ok so_far
product_from k w (f ∷ fs) s t so_far = after (one_more k.mul None 2 s (factor_outcome k w f s t) so_far) (product_from k w fs s t)

-- the product of factors
abbrev pub product_outcome : Kind → Weights → List PlainFactor → (s t : ℕ → ℕ) → Result Pair Stop
product_outcome k w fs s t = after (product_from k w fs s t None) (whole (k.from_ratio 1 1))

-- that product, summed: node 1
abbrev pub sum_outcome : Kind → Weights → PlainFactors → (s t : ℕ → ℕ) → Result Pair Stop
sum_outcome k w e s t = after (each_cell (has e.summed) w.size w.vertices 0 (λ c. one_more k.add None 1 s (product_outcome k w e.factors c t)) s None)
    (whole (k.from_ratio 0 1))

-- and over P(given): node 0
abbrev pub factors_outcome : Kind → Weights → PlainFactors → (s t : ℕ → ℕ) → Result Pair Stop
factors_outcome k w e s t =
    after (sum_outcome k w e s t) (λ a. after (formula_value (plain k) w (chance_of e.given) s) (λ b. placed None 0 s (k.div a b)))
