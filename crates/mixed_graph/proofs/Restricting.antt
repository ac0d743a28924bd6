use Rattle.std.proofs.Common.{◌≡◌, ℕ, Bool, ◌&&◌, List, [], ◌∷◌, ap, ◌∙◌}
use mathlib.Core.Path.{fun_ext}
use Rattle.std.proofs.lemmas.Bool.{and_parts, and_from, and_left}
use Rattle.mixed_graph.specs.Graphs.{MixedGraph, IsMixedGraph, IsDirectedPath, restricted}

-- graphs with the same edges are equal
pub same_graph : (n : ℕ) (arrow arrow' both both' : ℕ → ℕ → Bool) → ((u v : ℕ) → arrow u v ≡ arrow' u v) → ((u v : ℕ) → both u v ≡ both' u v) →
    ◌≡◌ {A = MixedGraph} (record { vertices = n; arrow = arrow; both = both }) (record { vertices = n; arrow = arrow'; both = both' })
same_graph n arrow arrow' both both' a b =
    ap (λ (f : ℕ → ℕ → Bool). let g : MixedGraph = record { vertices = n; arrow = f; both = both } in g) (fun_ext (λ u. fun_ext (λ v. a u v)))
    ∙ ap (λ (f : ℕ → ℕ → Bool). let g : MixedGraph = record { vertices = n; arrow = arrow'; both = f } in g) (fun_ext (λ u. fun_ext (λ v. b u v)))

-- a directed path of the smaller graph is one of the larger
pub path_of_larger : (g : MixedGraph) (tails heads ends : ℕ → Bool) (a b : ℕ) (path : List ℕ) →
    IsDirectedPath (restricted g tails heads ends) a path b → IsDirectedPath g a path b
path_of_larger g tails heads ends a b [] p = p
path_of_larger g tails heads ends a b (c ∷ rest) p =
    ((and_parts (g.arrow a c) (tails a && heads c) p.0).0, path_of_larger g tails heads ends c b rest p.1)

-- what is left of a graph is a graph
pub IsMixedGraph-restricted : (g : MixedGraph) (tails heads ends : ℕ → Bool) → IsMixedGraph g → IsMixedGraph (restricted g tails heads ends)
IsMixedGraph-restricted g tails heads ends v = record {
  tail_below = λ a b e. v.tail_below a b (and_parts (g.arrow a b) (tails a && heads b) e).0;
  head_below = λ a b e. v.head_below a b (and_parts (g.arrow a b) (tails a && heads b) e).0;
  both_below = λ a b e. v.both_below a b (and_parts (g.both a b) (ends a && ends b) e).0;
  symmetric = λ a b e. let p = and_parts (g.both a b) (ends a && ends b) e in let q = and_parts (ends a) (ends b) p.1 in
      and_from (g.both b a) (ends b && ends a) (v.symmetric a b p.0) (and_from (ends b) (ends a) q.1 q.0);
  no_loop = λ a. and_left (g.both a a) (ends a && ends a) (v.no_loop a);
  acyclic = λ a c rest p. v.acyclic a c rest (path_of_larger g tails heads ends a a (c ∷ rest) p);
}
