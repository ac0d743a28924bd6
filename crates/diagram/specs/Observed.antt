-- The observed part of a graph that was read.
use Rattle.std.specs.Prelude.{ℕ, ◌≡◌, Bool, false, List}
use Rattle.mixed_graph.specs.Vocabulary.{has, MixedGraph, graph_of}
use Rattle.dag_reader.specs.declared.graph.ReadGraph.{ReadGraph}
use Rattle.latent_projection.specs.Vocabulary.{IsObserved, observed_below, renumbered_set, names_at}

-- the names of the observed vertices, in their order
abbrev pub observed_names : ReadGraph → List (List ℕ)
observed_names g = names_at (observed_below (has g.latent.bits) g.graph.n) g.names

-- q is the observed graph of g
abbrev pub IsObservedGraph : ReadGraph → MixedGraph → Type 0
IsObservedGraph g q = IsObserved (graph_of g.graph) (has g.latent.bits) q

-- the set in the numbers of the observed vertices
abbrev pub observed_set : ReadGraph → ℕ → ℕ → Bool
observed_set g set = renumbered_set (observed_below (has g.latent.bits) g.graph.n) (has set)

-- p is the observed graph of g, with the names and the flags of the observed vertices; it has no latent vertex
pub record IsObservedPart (g p : ReadGraph) : Type 0 where
  pub names : p.names ≡ observed_names g
  pub graph : IsObservedGraph g (graph_of p.graph)
  pub exposures : (v : ℕ) → has p.exposures.bits v ≡ observed_set g g.exposures.bits v
  pub outcomes : (v : ℕ) → has p.outcomes.bits v ≡ observed_set g g.outcomes.bits v
  pub adjusted : (v : ℕ) → has p.adjusted.bits v ≡ observed_set g g.adjusted.bits v
  pub no_latent : (v : ℕ) → has p.latent.bits v ≡ false
