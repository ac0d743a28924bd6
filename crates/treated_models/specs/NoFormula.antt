-- When no formula equals the effect among those whose treatment was observed.
use Rattle.std.specs.Prelude.{ℕ, ◌*◌, ◌≢◌, ◌≡◌, ◌<◌, true, false, ◌||◌}
use Rattle.mixed_graph.specs.Vocabulary.{has, MixedGraph, IsMixedGraph}
use Rattle.fractions.specs.Vocabulary.{Fraction, IsEqual}
use Rattle.finite_models.specs.Vocabulary.{AgreeObserved, FiniteModel, Fits, IsAssignment, IsPositiveModel, weight_of, total, ServesTwo}
use Rattle.prob_expr.specs.Vocabulary.{PlainFormula}
use Rattle.treated_models.specs.NamedOnce.{FormulaNamesOnce}
use Rattle.treated_models.specs.Primes.{EqualsAmong}
use Rattle.treated_models.specs.Treated.{IsBefore, effect_among, joined}

-- no formula over names and primed names, whose terms are observed, equals the effect among those whose x was observed
abbrev pub HasNoFormulaAmong : MixedGraph → (x y z : ℕ) → Type 0
HasNoFormulaAmong g x y z = (f : PlainFormula) → FormulaNamesOnce g.vertices x f → EqualsAmong g x y z f → ⊥

-- two positive models that agree on observations and differ on the effect of x on y and z exclude one
abbrev pub DifferenceExcludesAmong : Type 0
DifferenceExcludesAmong = (g : MixedGraph) → IsMixedGraph g → (m₁ m₂ : FiniteModel) → Fits g m₁ → Fits g m₂ → IsPositiveModel m₁ → IsPositiveModel m₂
    → AgreeObserved m₁ m₂ → (x y z : ℕ) → IsBefore g (has x) (λ v. has x v || has z v) → ((v : ℕ) → has x v ≡ true → v < g.vertices)
    → ((v : ℕ) → has y v ≡ true → has x v ≡ false) → ((v : ℕ) → has y v ≡ true → has z v ≡ false) → ((v : ℕ) → has z v ≡ true → has x v ≡ false)
    → (s : ℕ → ℕ) → IsAssignment m₁.vertices m₁.size s
    → weight_of m₁ (has x) (λ v. has y v || has z v) s * total m₂ ≢ weight_of m₂ (has x) (λ v. has y v || has z v) s * total m₁
    → HasNoFormulaAmong g x y z

-- P(y under do(x) | x and z as observed): where x is set, and y and z, have the values s, and x was observed at t
abbrev pub among_at : FiniteModel → (x y z : ℕ) → (s t : ℕ → ℕ) → Fraction
among_at m x y z s t = effect_among m (has x) (has y) (λ v. has x v || has z v) s (joined (has x) s t)

-- Two positive models of the graph with equal observed probabilities, in which the effect among those whose x was observed has two values, where x is set
-- to the values `at`, and was observed at `seen`. Each cause of either serves two vertices at most.
pub record DifferAmong (g : MixedGraph) (x y z : ℕ) : Type 0 where
  pub first : FiniteModel
  pub second : FiniteModel
  pub first_fits : Fits g first
  pub second_fits : Fits g second
  pub first_positive : IsPositiveModel first
  pub second_positive : IsPositiveModel second
  pub first_two : ServesTwo first
  pub second_two : ServesTwo second
  pub observed : AgreeObserved first second
  pub at : ℕ → ℕ
  pub at_within : IsAssignment first.vertices first.size at
  pub seen : ℕ → ℕ
  pub seen_within : IsAssignment first.vertices first.size seen
  pub unequal : IsEqual (among_at first x y z at seen) (among_at second x y z at seen) → ⊥

-- such models exclude a formula
abbrev pub DifferingExcludesAmong : Type 0
DifferingExcludesAmong = (g : MixedGraph) → IsMixedGraph g → (x y z : ℕ) → ((v : ℕ) → has x v ≡ true → v < g.vertices) → DifferAmong g x y z
    → HasNoFormulaAmong g x y z
