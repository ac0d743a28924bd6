-- A sum of a product of factors, over a probability. Each factor is a formula that reads some vertices at a second level: so are the effect of treatment on
-- the treated and natural effects written, whose treatments have two levels at once.
use Rattle.std.specs.Prelude.{ℕ, Bool, true, not, ◌&&◌, ◌==◌, if◌then◌else◌, List, [], ◌∷◌}
use Rattle.mixed_graph.specs.Vocabulary.{has}
use Rattle.fractions.specs.Vocabulary.{Fraction, over, mul, div}
use Rattle.prob_expr.specs.Tree.{prob}
use Rattle.prob_expr.specs.Vocabulary.{PlainFormula, Weights, value_of, add_over}
use Rattle.count_eval.specs.Vocabulary.{is_supported, all_over}

-- a formula, and the vertices that it reads at their second levels
pub record PlainFactor : Type 0 where
  pub second : ℕ
  pub formula : PlainFormula

-- the product of factors, summed over a set; over P(given)
pub record PlainFactors : Type 0 where
  pub summed : ℕ
  pub factors : List PlainFactor
  pub given : ℕ

-- the levels that are read: of the second vertices those of t, of all others those of s
abbrev pub read_at : (second : ℕ) → (s t : ℕ → ℕ) → ℕ → ℕ
read_at second s t v = if has second v then t v else s v

-- the formula P(set)
abbrev pub chance_of : ℕ → PlainFormula
chance_of set = record { defs = []; main = prob set 0 0 }

-- the product of the values of factors
abbrev pub factors_product : Weights → List PlainFactor → (s t : ℕ → ℕ) → Fraction
factors_product w [] s t = over 1 1
factors_product w (f ∷ fs) s t = mul (value_of w f.formula (read_at f.second s t)) (factors_product w fs s t)

-- the value: that product, summed, over P(given)
abbrev pub factors_value : Weights → PlainFactors → (s t : ℕ → ℕ) → Fraction
factors_value w e s t = div (add_over (has e.summed) w.size w.vertices (λ c. factors_product w e.factors c t) s) (value_of w (chance_of e.given) s)

-- whether each factor has a value
abbrev pub product_supported : Weights → List PlainFactor → (s t : ℕ → ℕ) → Bool
product_supported w [] s t = true
product_supported w (f ∷ fs) s t = is_supported w f.formula (read_at f.second s t) && product_supported w fs s t

-- whether there is a value: no denominator that is met is 0
abbrev pub factors_supported : Weights → PlainFactors → (s t : ℕ → ℕ) → Bool
factors_supported w e s t = all_over (has e.summed) w.size w.vertices (λ c. product_supported w e.factors c t) s
    && (is_supported w (chance_of e.given) s && not ((value_of w (chance_of e.given) s).top == 0))
