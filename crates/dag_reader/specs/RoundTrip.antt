-- What is read of a text that was written.
use Rattle.std.specs.Prelude.{◌≡◌, ℕ, Result, Ok, Err}
use Rattle.mixed_graph.specs.Vocabulary.{graph_of}
use Rattle.dag_reader.specs.declared.graph.ReadGraph.{ReadGraph}
use Rattle.dag_reader.specs.declared.faults.GraphFault.{GraphFault}
use Rattle.dag_reader.specs.declared.faults.GraphFault.TheVariants.{NoMemory}

-- the same names, the same edges and the same sets
pub record AreSame (g h : ReadGraph) : Type 0 where
  pub names : h.names ≡ g.names
  pub vertices : h.graph.n ≡ g.graph.n
  pub arrows : (a b : ℕ) → (graph_of h.graph).arrow a b ≡ (graph_of g.graph).arrow a b
  pub spouses : (a b : ℕ) → (graph_of h.graph).both a b ≡ (graph_of g.graph).both a b
  pub exposures : h.exposures.bits ≡ g.exposures.bits
  pub outcomes : h.outcomes.bits ≡ g.outcomes.bits
  pub adjusted : h.adjusted.bits ≡ g.adjusted.bits
  pub latent : h.latent.bits ≡ g.latent.bits

-- the same graph was read, unless memory was refused
abbrev pub IsReadBack : ReadGraph → Result ReadGraph GraphFault → Type 0
IsReadBack g (Ok h) = AreSame g h
IsReadBack g (Err NoMemory) = Unit {0}
IsReadBack g (Err fault) = ⊥
