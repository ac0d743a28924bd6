-- What is true of observed graphs.
use Rattle.std.specs.Prelude.{ℕ, Bool}
use Rattle.mixed_graph.specs.Vocabulary.{MixedGraph, IsMixedGraph}
use Rattle.latent_projection.specs.Renumbering.{IsObserved}

-- the observed graph of a mixed graph is a mixed graph: acyclic, symmetric, with the ends of its edges below its number of vertices
abbrev pub ObservedIsMixed : Type 0
ObservedIsMixed = (g : MixedGraph) → IsMixedGraph g → (l : ℕ → Bool) (q : MixedGraph) → IsObserved g l q → IsMixedGraph q
