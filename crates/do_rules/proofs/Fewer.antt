-- A graph with some edges fewer is a graph.
use Rattle.std.proofs.Common.{◌≡◌, ℕ, ◌<◌, Bool, false, not, ◌&&◌, List, [], ◌∷◌, IsTrue, refl, subst}
use Rattle.std.proofs.lemmas.Bool.{and_parts, and_from, false_from_ne_true}
use Rattle.mixed_graph.specs.Vocabulary.{MixedGraph, IsMixedGraph, IsDirectedPath}
use Rattle.do_rules.specs.Cuts.{cut_into, cut_out}

-- h has the vertices of g and none but edges of g
pub record HasFewer (h g : MixedGraph) : Type 0 where
  pub vertices : g.vertices ≡ h.vertices
  pub arrows : (u v : ℕ) → IsTrue (h.arrow u v) → IsTrue (g.arrow u v)
  pub spouses : (u v : ℕ) → IsTrue (h.both u v) → IsTrue (g.both u v)
  pub symmetric : (u v : ℕ) → IsTrue (h.both u v) → IsTrue (h.both v u)

pub path_of_fewer : (h g : MixedGraph) → HasFewer h g → (v : ℕ) (path : List ℕ) (t : ℕ) → IsDirectedPath h v path t → IsDirectedPath g v path t
path_of_fewer h g less v [] t p = p
path_of_fewer h g less v (x ∷ rest) t p = (less.arrows v x p.0, path_of_fewer h g less x rest t p.1)

-- a mixed graph stays one with fewer edges
pub graph_of_fewer : (h g : MixedGraph) → HasFewer h g → IsMixedGraph g → IsMixedGraph h
graph_of_fewer h g less k = record {
  tail_below = λ u v e. subst (λ n. u < n) less.vertices (k.tail_below u v (less.arrows u v e));
  head_below = λ u v e. subst (λ n. v < n) less.vertices (k.head_below u v (less.arrows u v e));
  both_below = λ u v e. subst (λ n. u < n) less.vertices (k.both_below u v (less.spouses u v e));
  symmetric = less.symmetric;
  no_loop = λ v. false_from_ne_true (h.both v v) (λ e. let no : g.both v v ≡ false = k.no_loop v in let yes = less.spouses v v e in cc);
  acyclic = λ v x rest p. k.acyclic v x rest (path_of_fewer h g less v (x ∷ rest) v p);
}

pub fewer_into : (g : MixedGraph) (x : ℕ → Bool) → IsMixedGraph g → HasFewer (cut_into g x) g
fewer_into g x k = record {
  vertices = refl;
  arrows = λ u v e. (and_parts (g.arrow u v) (not (x v)) e).0;
  spouses = λ u v e. (and_parts (g.both u v) (not (x u) && not (x v)) e).0;
  symmetric = λ u v e. let p = and_parts (g.both u v) (not (x u) && not (x v)) e in let q = and_parts (not (x u)) (not (x v)) p.1 in
      and_from (g.both v u) (not (x v) && not (x u)) (k.symmetric u v p.0) (and_from (not (x v)) (not (x u)) q.1 q.0);
}

pub fewer_out : (g : MixedGraph) (z : ℕ → Bool) → IsMixedGraph g → HasFewer (cut_out g z) g
fewer_out g z k = record {
  vertices = refl;
  arrows = λ u v e. (and_parts (g.arrow u v) (not (z u)) e).0;
  spouses = λ u v e. e;
  symmetric = k.symmetric;
}

-- a cut graph is a graph
pub graph_into : (g : MixedGraph) (x : ℕ → Bool) → IsMixedGraph g → IsMixedGraph (cut_into g x)
graph_into g x k = graph_of_fewer (cut_into g x) g (fewer_into g x k) k

-- a mixed graph stays one without the arrows out of z
pub graph_out : (g : MixedGraph) (z : ℕ → Bool) → IsMixedGraph g → IsMixedGraph (cut_out g z)
graph_out g z k = graph_of_fewer (cut_out g z) g (fewer_out g z k) k
