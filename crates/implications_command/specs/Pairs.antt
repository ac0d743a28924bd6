-- The pairs of a graph that some set separates.
use Rattle.std.specs.Prelude.{ℕ, ◌≡◌, ◌<◌, ◌≤◌, List, length, All}
use Rattle.std.specs.List.{Any}
use Rattle.mixed_graph.specs.Vocabulary.{has, MixedGraph, IsMixedGraph, Within, graph_of}
use Rattle.do_rules.specs.Vocabulary.{AreIndependent}
use Rattle.dag_reader.specs.declared.graph.ReadGraph.{ReadGraph}
use Rattle.implications.specs.declared.pairs.Implication.{Implication}
use Rattle.implications.specs.Vocabulary.{AreImplications, IsOf, only, AreIndependentGivenSome}

-- pairs of vertices of a graph, each with a set; the vertices have these names
pub record PlainPairs : Type 0 where
  pub names : List (List ℕ)
  pub graph : MixedGraph
  pub list : List Implication

-- those of this list
abbrev pub pairs_of : MixedGraph → (names : List (List ℕ)) → List Implication → PlainPairs
pairs_of q names list = record { names = names; graph = q; list = list }

-- those of a graph with its names
abbrev pub pairs_in : ReadGraph → List Implication → PlainPairs
pairs_in seen list = pairs_of (graph_of seen.graph) seen.names list

-- There is one, and they are exactly those that some set separates, in order, each with its stated set, which separates it.
-- The two vertices of each are independent given its set, in each model that fits the graph, positive or not; and all that are so given some set are listed.
pub record ArePairs (p : PlainPairs) : Type 0 where
  pub named : length p.names ≡ p.graph.vertices
  pub few : p.graph.vertices ≤ 64
  pub graph : IsMixedGraph p.graph
  pub some : 0 < length p.list
  pub implications : AreImplications p.graph p.list
  pub complete : (a b : ℕ) → AreIndependentGivenSome p.graph a b → Any (IsOf a b) p.list
  pub independent : All (λ i. AreIndependent p.graph (only i.a) (only i.b) (has i.given.bits)) p.list

-- the vertices of the pair and of its set are among n
pub record IsNamed (n : ℕ) (i : Implication) : Type 0 where
  pub a : i.a < n
  pub b : i.b < n
  pub given : Within n (has i.given.bits)
