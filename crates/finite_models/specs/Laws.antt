-- Laws of the models that fit a graph.
use Rattle.std.specs.Prelude.{ℕ, ◌≡◌, ◌<◌, ◌≤◌, Bool, false, EachIndex, length, slice_index}
use Rattle.mixed_graph.specs.Vocabulary.{MixedGraph, IsMixedGraph}
use Rattle.finite_models.specs.Models.{FiniteModel, Fits, IsAssignment, IsWorld, IsSolution, IsPositiveModel, solution, event_weight, intervene}
use Rattle.finite_models.specs.Models.{weight_of, total}
use Rattle.finite_models.specs.Data.{meaning}
use Rattle.finite_models.specs.Faults.{IsSoundModel, IsWellFormed}
use Rattle.finite_models.specs.declared.model.Model.{Model}

-- the solution of a world under an intervention is a solution
abbrev pub SolutionIsSolution : Type 0
SolutionIsSolution = (g : MixedGraph) → IsMixedGraph g → (m : FiniteModel) → Fits g m → (b : ℕ → Bool) (s : ℕ → ℕ) → IsAssignment m.vertices m.size s
    → (u : ℕ → ℕ) → IsSolution (intervene m b s) u (solution (intervene m b s) u)

-- and there is no other
abbrev pub SolutionIsUnique : Type 0
SolutionIsUnique = (g : MixedGraph) → IsMixedGraph g → (m : FiniteModel) → Fits g m → (b : ℕ → Bool) (s : ℕ → ℕ) → IsAssignment m.vertices m.size s
    → (u t : ℕ → ℕ) → IsSolution (intervene m b s) u t → (v : ℕ) → v < m.vertices → t v ≡ solution (intervene m b s) u v

-- its values are below the sizes
abbrev pub SolutionIsAssignment : Type 0
SolutionIsAssignment = (g : MixedGraph) → IsMixedGraph g → (m : FiniteModel) → Fits g m → (b : ℕ → Bool) (s : ℕ → ℕ) → IsAssignment m.vertices m.size s
    → (u : ℕ → ℕ) → IsWorld m u → IsAssignment m.vertices m.size (solution (intervene m b s) u)

-- the intervention on no vertex changes no weight
abbrev pub NoInterventionIsObservation : Type 0
NoInterventionIsObservation = (m : FiniteModel) (b a : ℕ → Bool) (s : ℕ → ℕ) → ((v : ℕ) → b v ≡ false) → weight_of m b a s ≡ event_weight m a s

-- the event of no vertex has the weight of all worlds, under each intervention
abbrev pub NoEventIsTotal : Type 0
NoEventIsTotal = (m : FiniteModel) (b a : ℕ → Bool) (s : ℕ → ℕ) → ((v : ℕ) → a v ≡ false) → weight_of m b a s ≡ total m

-- in a positive model each event has weight at least 1 under each intervention, at each assignment
abbrev pub EachWeightIsPositive : Type 0
EachWeightIsPositive = (g : MixedGraph) → IsMixedGraph g → (m : FiniteModel) → Fits g m → IsPositiveModel m → (b a : ℕ → Bool) (s : ℕ → ℕ)
    → IsAssignment m.vertices m.size s
    → 1 ≤ weight_of m b a s

-- sound data, with a positive size and a mechanism for each vertex, means a model that fits the graph
abbrev pub SoundDataFits : Type 0
SoundDataFits = (g : MixedGraph) (m : Model) → length m.sizes.items ≡ g.vertices → length m.mechanisms.items ≡ g.vertices
    → EachIndex m.sizes.items (λ v. 1 ≤ slice_index m.sizes.items v)
    → IsSoundModel g m → Fits g (meaning g m)

-- and data of the right form that means such a model is sound
abbrev pub FittingDataIsSound : Type 0
FittingDataIsSound = (g : MixedGraph) (m : Model) → length m.sizes.items ≡ g.vertices → length m.mechanisms.items ≡ g.vertices → IsWellFormed g m
    → Fits g (meaning g m) → IsSoundModel g m

-- a positive model of these sizes that fits the graph
pub record HasPositiveModel (g : MixedGraph) (size : ℕ → ℕ) : Type 0 where
  pub model : FiniteModel
  pub fits : Fits g model
  pub positive : IsPositiveModel model
  pub sizes : model.size ≡ size

-- each graph has one, whatever the sizes of its vertices: what is said of every positive model isn't said of nothing
abbrev pub EachGraphHasModel : Type 0
EachGraphHasModel = (g : MixedGraph) → IsMixedGraph g → (size : ℕ → ℕ) → ((v : ℕ) → v < g.vertices → 1 ≤ size v) → HasPositiveModel g size
