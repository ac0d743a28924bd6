-- The formula of a nested effect as a sum of a product of factors: one for each district, which reads some treatments at their second levels.
use Rattle.std.specs.Prelude.{ℕ, ◌≡◌, true, false, List, map, All}
use Rattle.mixed_graph.specs.Vocabulary.{has}
use Rattle.finite_models.specs.Vocabulary.{FiniteModel}
use Rattle.prob_expr.specs.Vocabulary.{weights_of}
use Rattle.natural_id.specs.Vocabulary.{PlainPart, natural_value}
use Rattle.factor_values.specs.Vocabulary.{PlainFactor, PlainFactors, factors_value}

-- the factor of a part
abbrev pub factor_of_part : PlainPart → PlainFactor
factor_of_part p = record { second = p.second; formula = p.formula }

-- the factors of a formula, summed over a set, over P(z)
abbrev pub natural_factors : (summed z : ℕ) → List PlainPart → PlainFactors
natural_factors summed z ps = record { summed = summed; factors = map factor_of_part ps; given = z }

-- the part reads members of x alone at their second values
abbrev pub ReadsInside : (x : ℕ) → PlainPart → Type 0
ReadsInside x p = (v : ℕ) → has p.second v ≡ true → has x v ≡ true

-- where each part does, and the sum is over other vertices, the factors have the formula's value in each model
abbrev pub FactorsEqualNatural : Type 0
FactorsEqualNatural = (w : FiniteModel) (x z summed : ℕ) (ps : List PlainPart) → All (ReadsInside x) ps → ((v : ℕ) → has summed v ≡ true → has x v ≡ false)
    → (s t : ℕ → ℕ) → factors_value (weights_of w) (natural_factors summed z ps) s t ≡ natural_value w x z summed ps s t
