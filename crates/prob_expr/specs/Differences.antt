-- Two models in which an effect has two values, and formulas that can't equal it then.
use Rattle.std.specs.Prelude.{ℕ, ◌*◌, ◌≡◌, ◌≢◌, true, List}
use Rattle.mixed_graph.specs.Vocabulary.{has, MixedGraph, IsMixedGraph}
use Rattle.fractions.specs.Vocabulary.{IsEqual}
use Rattle.finite_models.specs.Vocabulary.{AgreeObserved, FiniteModel, Fits, IsAssignment, IsPositiveModel, weight_of, total}
use Rattle.prob_expr.specs.Experiments.{AgreeUnderAll}
use Rattle.prob_expr.specs.Terms.{is_allowed, is_do_free}
use Rattle.prob_expr.specs.Tree.{PlainFormula, PlainTarget}
use Rattle.prob_expr.specs.Values.{effect, EqualsEffect}

-- an assignment at which the effect has two values
pub record DifferOn (m₁ m₂ : FiniteModel) (t : PlainTarget) : Type 0 where
  pub at : ℕ → ℕ
  pub within : IsAssignment m₁.vertices m₁.size at
  pub unequal : IsEqual (effect m₁ t at) (effect m₂ t at) → ⊥

-- the effect has two values under every value of x: for each assignment there is one that agrees with it on x
abbrev pub DifferOnTarget : (m₁ m₂ : FiniteModel) → PlainTarget → Type 0
DifferOnTarget m₁ m₂ t = (a : ℕ → ℕ) → IsAssignment m₁.vertices m₁.size a → (d : DifferOn m₁ m₂ t) × ((v : ℕ) → has t.x v ≡ true → d.at v ≡ a v)

-- no formula without interventions equals the effect
abbrev pub HasNoFormula : MixedGraph → PlainTarget → Type 0
HasNoFormula g t = (f : PlainFormula) → is_do_free f ≡ true → EqualsEffect g t f → ⊥

-- no formula whose terms are observed or under one of the experiments equals the effect
abbrev pub HasNoFormulaOver : MixedGraph → List ℕ → PlainTarget → Type 0
HasNoFormulaOver g zs t = (f : PlainFormula) → is_allowed zs f ≡ true → EqualsEffect g t f → ⊥

-- weights of y under do(x) in unequal ratios to the totals are effects with two values
abbrev pub UnequalWeights : Type 0
UnequalWeights = (m₁ m₂ : FiniteModel) (x y : ℕ) (a : ℕ → ℕ) → weight_of m₁ (has x) (has y) a * total m₂ ≢ weight_of m₂ (has x) (has y) a * total m₁
    → IsEqual (effect m₁ (record { x = x; y = y; given = 0 }) a) (effect m₂ (record { x = x; y = y; given = 0 }) a) → ⊥

-- two positive models that agree on what is observed and differ on an effect exclude a formula without interventions
abbrev pub DifferenceExcludesFormula : Type 0
DifferenceExcludesFormula = (g : MixedGraph) → IsMixedGraph g → (m₁ m₂ : FiniteModel) → Fits g m₁ → Fits g m₂ → IsPositiveModel m₁ → IsPositiveModel m₂
    → AgreeObserved m₁ m₂
    → (t : PlainTarget) → DifferOnTarget m₁ m₂ t → HasNoFormula g t

-- and where they agree under experiments too, one over these
abbrev pub ExperimentsExcludeFormula : Type 0
ExperimentsExcludeFormula = (g : MixedGraph) → IsMixedGraph g → (m₁ m₂ : FiniteModel) → Fits g m₁ → Fits g m₂ → IsPositiveModel m₁ → IsPositiveModel m₂
    → AgreeObserved m₁ m₂
    → (zs : List ℕ) → AgreeUnderAll zs m₁ m₂ → (t : PlainTarget) → DifferOnTarget m₁ m₂ t → HasNoFormulaOver g zs t
