-- A diagram that a caller keeps: what it holds, and what may be asked of it.
use Rattle.std.specs.Prelude.{ℕ, ◌≡◌, ◌≢◌, ◌<◌, ◌≤◌, List, [], ◌∷◌, ◌++◌, length, Err}
use Rattle.mixed_graph.specs.Vocabulary.{has, MixedGraph, graph_from, Within, Apart, graph_of}
use Rattle.do_rules.specs.Vocabulary.{AreThreeSets}
use Rattle.dag_reader.specs.declared.graph.ReadGraph.{ReadGraph}
use Rattle.dag_reader.specs.declared.faults.GraphFault.{GraphFault}
use Rattle.dag_reader.specs.declared.faults.GraphFault.TheVariants.{NoMemory}
use Rattle.dag_reader.specs.Reads.{Reads}
use Rattle.diagram.specs.Vocabulary.{IsObservedGraph}
use Rattle.replies.specs.Vocabulary.{HoldsGraph}
use Rattle.caller_memory.specs.declared.kept.kept.KeptGraph.{KeptGraph}
use Rattle.caller_memory.specs.declared.kept.kept.KeptDiagram.{KeptDiagram}

-- the graph that is kept
abbrev pub graph_in : KeptGraph → MixedGraph
graph_in k = graph_from k.vertices k.children k.spouses

-- the names, each with a line feed behind it
abbrev pub lines_of : List (List ℕ) → List ℕ
lines_of [] = []
lines_of (name ∷ rest) = name ++ (10 ∷ lines_of rest)

-- the diagram and these lines keep a graph that was read: its names, its edges and its marks
pub record Keeps (k : KeptDiagram) (lines : List ℕ) (g : ReadGraph) : Type 0 where
  pub names : lines ≡ lines_of g.names
  pub graph : graph_in k.read ≡ graph_of g.graph
  pub exposures : k.exposures ≡ g.exposures.bits
  pub outcomes : k.outcomes ≡ g.outcomes.bits
  pub adjusted : k.adjusted ≡ g.adjusted.bits
  pub latent : k.latent ≡ g.latent.bits

-- the bytes are a graph text, at most 1,048,576 of them, and its graph is kept beside its observed graph
pub record KeepsText (bytes : List ℕ) (k : KeptDiagram) (lines : List ℕ) : Type 0 where
  pub read : ReadGraph
  pub holds : HoldsGraph bytes read
  pub keeps : Keeps k lines read
  pub observed : IsObservedGraph read (graph_in k.observed)

-- the bytes are no graph text: they are too many, or the text has a fault
pub data IsNoGraphText (bytes : List ℕ) : Type 0 where
  too_long : 1048576 < length bytes → IsNoGraphText bytes
  faulty : (fault : GraphFault) → length bytes ≤ 1048576 → (fault ≡ NoMemory → ⊥) → Reads bytes (Err fault) → IsNoGraphText bytes

-- a separation, or a set to adjust for, may be asked of the sets that these masks hold: they are within the graph and pairwise disjoint, and the first two have members
pub record AreAskable (n x y given : ℕ) : Type 0 where
  pub sets : AreThreeSets n (has x) (has y) (has given)
  pub some_x : x ≢ 0
  pub some_y : y ≢ 0

-- the effect of x on y may be asked for: both are within the graph, without a common member, and y has a member
pub record AreEffectSets (n x y : ℕ) : Type 0 where
  pub x_within : Within n (has x)
  pub y_within : Within n (has y)
  pub apart : Apart (has x) (has y)
  pub some_y : y ≢ 0
