-- What is kept beside the graph that was read is an observed graph of it.
use Rattle.std.proofs.Common.{◌≡◌, ℕ, length, ap, sym, subst}
use Rattle.std.proofs.Math.Logic.{∥∥₁_elim, ∥∥₁_map}
use Rattle.std.proofs.Math.Nat.{ℕ_set}
use Rattle.mixed_graph.specs.Vocabulary.{has, MixedGraph, graph_of}
use Rattle.dag_reader.specs.declared.graph.ReadGraph.{ReadGraph}
use Rattle.latent_projection.specs.Vocabulary.{IsObserved, observed_below}
use Rattle.diagram.specs.Vocabulary.{IsObservedGraph}
use Rattle.caller_memory.specs.declared.kept.kept.KeptDiagram.{KeptDiagram}
use Rattle.caller_memory.specs.Kept.{graph_in}

-- the observed graph of a graph is that of an equal one
pub observed_alike : (g h : MixedGraph) (l m : ℕ) (q p : MixedGraph) → h ≡ g → m ≡ l → p ≡ q → IsObserved g (has l) q → IsObserved h (has m) p
observed_alike g h l m q p a b c is =
    subst (λ (x : MixedGraph). IsObserved x (has m) p) (sym a)
    (subst (λ (k : ℕ). IsObserved g (has k) p) (sym b) (subst (λ (x : MixedGraph). IsObserved g (has l) x) (sym c) is))

module _ (k : KeptDiagram) (g : ReadGraph) (q : MixedGraph) (read : graph_in k.read ≡ graph_of g.graph) (latent : k.latent ≡ g.latent.bits)
    (observed : q ≡ graph_in k.observed) where
  -- what is kept is that of the graph that was read
  pub observed_of_read : ∥ IsObservedGraph g q ∥₁
  observed_of_read = ∥∥₁_map k.projected
      (observed_alike (graph_in k.read) (graph_of g.graph) k.latent g.latent.bits (graph_in k.observed) q (sym read) (sym latent) observed)

  -- it has the vertices that aren't hidden
  pub observed_size : q.vertices ≡ length (observed_below (has g.latent.bits) g.graph.n)
  observed_size = ∥∥₁_elim observed_of_read (ℕ_set q.vertices (length (observed_below (has g.latent.bits) g.graph.n)))
      (λ o. ap (λ (m : MixedGraph). m.vertices) o.renumbers)
