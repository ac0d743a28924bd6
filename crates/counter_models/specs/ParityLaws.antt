-- What the two models of a hedge's data have in common, and in what they differ.
use Rattle.std.specs.Prelude.{ℕ, ◌+◌, ◌*◌, ◌^◌, ◌≡◌, ◌≢◌, Bool, IsTrue}
use Rattle.mixed_graph.specs.Vocabulary.{MixedGraph, IsMixedGraph}
use Rattle.finite_models.specs.Vocabulary.{AgreeObserved, FiniteModel, Fits, IsAssignment, IsPositiveModel, weight_of, total}
use Rattle.counter_models.specs.Hedges.{ParityHedge, IsWholeHedge, noise_of}
use Rattle.counter_models.specs.ParityPairs.{first_model, second_model, size_of, event_even}

-- both fit the graph
abbrev pub BothFit : Type 0
BothFit = (g : MixedGraph) → IsMixedGraph g → (x : ℕ → Bool) (d : ParityHedge) → IsWholeHedge g x d
    → Fits g (first_model g.vertices d) × Fits g (second_model g.vertices d)

-- both are positive
abbrev pub BothPositive : Type 0
BothPositive = (g : MixedGraph) → IsMixedGraph g → (x : ℕ → Bool) (d : ParityHedge) → IsWholeHedge g x d
    → IsPositiveModel (first_model g.vertices d) × IsPositiveModel (second_model g.vertices d)

-- they give each observation the same probability
abbrev pub ObservationsAgree : Type 0
ObservationsAgree = (g : MixedGraph) → IsMixedGraph g → (x : ℕ → Bool) (d : ParityHedge) → IsWholeHedge g x d
    → AgreeObserved (first_model g.vertices d) (second_model g.vertices d)

-- under do(x), at every value of x, the event has the probability 1 / 2 in the first
abbrev pub EventIsHalf : Type 0
EventIsHalf = (g : MixedGraph) → IsMixedGraph g → (x : ℕ → Bool) (d : ParityHedge) → IsWholeHedge g x d → (a : ℕ → ℕ) → IsAssignment g.vertices (size_of d) a
    → 2 * event_even (first_model g.vertices d) d x a ≡ total (first_model g.vertices d)

-- and 1 / 2 + 1 / 2 ^ (noise + 1) in the second
abbrev pub EventIsMore : Type 0
EventIsMore = (g : MixedGraph) → IsMixedGraph g → (x : ℕ → Bool) (d : ParityHedge) → IsWholeHedge g x d → (a : ℕ → ℕ) → IsAssignment g.vertices (size_of d) a
    → 2 ^ (noise_of d + 1) * event_even (second_model g.vertices d) d x a ≡ (2 ^ noise_of d + 1) * total (second_model g.vertices d)

-- an assignment at which P(y | do(x)) has two values
pub record DifferAt (m₁ m₂ : FiniteModel) (x y : ℕ → Bool) : Type 0 where
  pub at : ℕ → ℕ
  pub within : IsAssignment m₁.vertices m₁.size at
  pub unequal : weight_of m₁ x y at * total m₂ ≢ weight_of m₂ x y at * total m₁

-- under every value of x: for each assignment there is one that agrees with it on x, at which P(y | do(x)) has two values
abbrev pub DifferAtEach : (m₁ m₂ : FiniteModel) (x y : ℕ → Bool) → Type 0
DifferAtEach m₁ m₂ x y = (a : ℕ → ℕ) → IsAssignment m₁.vertices m₁.size a → (d : DifferAt m₁ m₂ x y) × ((v : ℕ) → IsTrue (x v) → d.at v ≡ a v)

-- the effects of x on the target differ at some assignment
abbrev pub EffectsDiffer : Type 0
EffectsDiffer = (g : MixedGraph) → IsMixedGraph g → (x : ℕ → Bool) (d : ParityHedge) → IsWholeHedge g x d
    → DifferAt (first_model g.vertices d) (second_model g.vertices d) x d.target

-- and they differ under every value of x
abbrev pub EffectsDifferAtEach : Type 0
EffectsDifferAtEach = (g : MixedGraph) → IsMixedGraph g → (x : ℕ → Bool) (d : ParityHedge) → IsWholeHedge g x d
    → DifferAtEach (first_model g.vertices d) (second_model g.vertices d) x d.target
