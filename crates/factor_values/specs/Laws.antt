-- What the values of sums of products of factors have to do with fractions, and with models.
use Rattle.std.specs.Prelude.{ℕ, ◌≡◌, Bool, true, Ok, All}
use Rattle.mixed_graph.specs.Vocabulary.{has, MixedGraph, IsMixedGraph}
use Rattle.fractions.specs.Vocabulary.{Fraction, IsEqual}
use Rattle.finite_models.specs.Vocabulary.{FiniteModel, Fits, IsAssignment, IsPositiveModel}
use Rattle.prob_expr.specs.Vocabulary.{is_do_free, Weights, weights_of}
use Rattle.quantity.specs.Kinds.{Pair}
use Rattle.quantity.specs.Vocabulary.{Kind}
use Rattle.count_eval.specs.Vocabulary.{IsUsed, AllUsed, IsMatched}
use Rattle.factor_values.specs.Factors.{PlainFactor, PlainFactors, factors_value, factors_supported}
use Rattle.factor_values.specs.Outcomes.{factors_outcome}

-- over any weights, what a kind gives is covered
abbrev pub FactorsAreCovered : Kind → (Pair → Fraction → Type 0) → Type 0
FactorsAreCovered kind covers = (w : Weights) (e : PlainFactors) (s t : ℕ → ℕ) (c : Pair) → factors_outcome kind w e s t ≡ Ok c
    → (factors_supported w e s t ≡ true) × covers c (factors_value w e s t)

-- the factor is without interventions, and has used vertices alone
pub record IsObservedFactor (used : ℕ → Bool) (f : PlainFactor) : Type 0 where
  pub do_free : is_do_free f.formula ≡ true
  pub defs : AllUsed used f.formula.defs
  pub main : IsUsed used f.formula.main

-- and so have all of them, the sum and what is given
pub record AreObserved (used : ℕ → Bool) (e : PlainFactors) : Type 0 where
  pub summed : (v : ℕ) → has e.summed v ≡ true → used v ≡ true
  pub factors : All (IsObservedFactor used) e.factors
  pub given : (v : ℕ) → has e.given v ≡ true → used v ≡ true

-- over weights that match a positive model, what a kind gives covers each fraction that the model's own value is
abbrev pub MatchedCoversFactors : Kind → (Pair → Fraction → Type 0) → Type 0
MatchedCoversFactors kind covers = (g : MixedGraph) → IsMixedGraph g → (m : FiniteModel) → Fits g m → IsPositiveModel m
    → (used : ℕ → Bool) (w : Weights) (all : ℕ) → IsMatched used w all m
    → (e : PlainFactors) → AreObserved used e → (s t : ℕ → ℕ) → IsAssignment m.vertices m.size s → IsAssignment m.vertices m.size t
    → (c : Pair) → factors_outcome kind w e s t ≡ Ok c → (f : Fraction) → IsEqual (factors_value (weights_of m) e s t) f → covers c f
