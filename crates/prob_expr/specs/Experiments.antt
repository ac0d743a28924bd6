-- Formulas whose terms are observed or under experiments, in models that these don't tell apart.
use Rattle.std.specs.Prelude.{ℕ, ◌≡◌, true, List}
use Rattle.mixed_graph.specs.Vocabulary.{has, MixedGraph, IsMixedGraph}
use Rattle.fractions.specs.Vocabulary.{IsEqual}
use Rattle.finite_models.specs.Vocabulary.{AgreeObserved, AgreeUnder, FiniteModel, Fits, IsAssignment, IsPositiveModel}
use Rattle.prob_expr.specs.Terms.{is_allowed, is_listed}
use Rattle.prob_expr.specs.Tree.{PlainFormula}
use Rattle.prob_expr.specs.Values.{weights_of, value_of}

-- two models agree under each experiment of the list
abbrev pub AgreeUnderAll : List ℕ → (m₁ m₂ : FiniteModel) → Type 0
AgreeUnderAll zs m₁ m₂ = (z : ℕ) → is_listed z zs ≡ true → AgreeUnder (has z) m₁ m₂

-- a formula whose terms are observed or under one of the experiments has equal values in two positive models that agree on observations and under each of them
abbrev pub ExperimentsFixValue : Type 0
ExperimentsFixValue = (g : MixedGraph) → IsMixedGraph g → (m₁ m₂ : FiniteModel) → Fits g m₁ → Fits g m₂ → IsPositiveModel m₁ → IsPositiveModel m₂
    → AgreeObserved m₁ m₂
    → (zs : List ℕ) → AgreeUnderAll zs m₁ m₂ → (f : PlainFormula) → is_allowed zs f ≡ true → (s : ℕ → ℕ) → IsAssignment m₁.vertices m₁.size s
    → IsEqual (value_of (weights_of m₁) f s) (value_of (weights_of m₂) f s)
