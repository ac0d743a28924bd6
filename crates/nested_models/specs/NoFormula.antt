-- When no formula equals a nested effect.
use Rattle.std.specs.Prelude.{ℕ, ◌*◌, ◌≢◌, ◌≡◌, ◌<◌, true, ◌||◌}
use Rattle.mixed_graph.specs.Vocabulary.{has, MixedGraph, IsMixedGraph}
use Rattle.fractions.specs.Vocabulary.{IsEqual}
use Rattle.finite_models.specs.Vocabulary.{AgreeObserved, FiniteModel, Fits, IsAssignment, IsPositiveModel, weight_of, total}
use Rattle.prob_expr.specs.Vocabulary.{PlainFormula, value_of}
use Rattle.treated_models.specs.Vocabulary.{FormulaNamesOnce, as_observed, with_primes}
use Rattle.nested_models.specs.Nested.{nested_effect, IsNestedQuery}

-- the formula has the value of P(y[x, m[x']] | z) in each positive model of the graph, at each assignment of values to names: x has the first value at
-- its own names, and the second at its primed names
abbrev pub EqualsNested : MixedGraph → (x m y z : ℕ) → PlainFormula → Type 0
EqualsNested g x m y z f = (w : FiniteModel) → Fits g w → IsPositiveModel w → (s : ℕ → ℕ)
    → IsAssignment (with_primes w x).vertices (with_primes w x).size s
    → IsEqual (value_of (with_primes w x) f s) (nested_effect w (has x) (has m) (has y) (has z) s (as_observed w.vertices x s))

-- no formula over names and primed names, whose terms are observed, equals it
abbrev pub HasNoFormulaNested : MixedGraph → (x m y z : ℕ) → Type 0
HasNoFormulaNested g x m y z = (f : PlainFormula) → FormulaNamesOnce g.vertices x f → EqualsNested g x m y z f → ⊥

-- two positive models that agree on observations and differ on the nested effect, at some two values of x, exclude one
abbrev pub DifferenceExcludesNested : Type 0
DifferenceExcludesNested = (g : MixedGraph) → IsMixedGraph g → (m₁ m₂ : FiniteModel) → Fits g m₁ → Fits g m₂ → IsPositiveModel m₁ → IsPositiveModel m₂
    → AgreeObserved m₁ m₂ → (x m y z : ℕ) → ((v : ℕ) → has x v ≡ true → v < g.vertices)
    → (s t : ℕ → ℕ) → IsAssignment m₁.vertices m₁.size s → IsAssignment m₁.vertices m₁.size t
    → (IsEqual (nested_effect m₁ (has x) (has m) (has y) (has z) s t) (nested_effect m₂ (has x) (has m) (has y) (has z) s t) → ⊥)
    → HasNoFormulaNested g x m y z

-- and so do two that differ on the effect of x on y and z, since it is the nested one where both values of x are one
abbrev pub EffectExcludesNested : Type 0
EffectExcludesNested = (g : MixedGraph) → IsMixedGraph g → (m₁ m₂ : FiniteModel) → Fits g m₁ → Fits g m₂ → IsPositiveModel m₁ → IsPositiveModel m₂
    → AgreeObserved m₁ m₂ → (x m y z : ℕ) → IsNestedQuery g (has x) (has m) (has y) (has z) → ((v : ℕ) → has x v ≡ true → v < g.vertices)
    → (s : ℕ → ℕ) → IsAssignment m₁.vertices m₁.size s
    → weight_of m₁ (has x) (λ v. has y v || has z v) s * total m₂ ≢ weight_of m₂ (has x) (λ v. has y v || has z v) s * total m₁
    → HasNoFormulaNested g x m y z
