use Rattle.std.proofs.Common.{◌≡◌, ℕ, ◌<◌, Bool, true, List, [], ◌∷◌, ◌++◌, refl, sym, subst, ◌∙◌, IsTrue}
use Rattle.mixed_graph.specs.Graphs.{MixedGraph, IsDirectedPath, IsAncestor}
use Rattle.mixed_graph.specs.Arrows.{IsPathBelow}

-- a set that holds the parents of its members holds each vertex with a path into it
pub held_along_path : (g : MixedGraph) (held : ℕ → Bool) →
    ((u v : ℕ) → IsTrue (held v) → IsTrue (g.arrow u v) → IsTrue (held u)) →
    (a b : ℕ) (path : List ℕ) → IsDirectedPath g a path b → IsTrue (held b) → IsTrue (held a)
held_along_path g held closed a b [] p h = rw p h
held_along_path g held closed a b (c ∷ rest) p h =
    closed a c (held_along_path g held closed c b rest p.1 h) p.0

-- a member of a set within the graph is its own ancestor
pub ancestor_member : (g : MixedGraph) (s : ℕ → Bool) (v : ℕ) → v < g.vertices → IsTrue (s v) → IsAncestor g s v
ancestor_member g s v below i = record { vertex = below; path = []; end = v; leads = refl; inside = i }

-- a parent of an ancestor is an ancestor
pub ancestor_parent : (g : MixedGraph) (s : ℕ → Bool) (u v : ℕ) → u < g.vertices → IsTrue (g.arrow u v) → IsAncestor g s v → IsAncestor g s u
ancestor_parent g s u v below edge a = record { vertex = below; path = v ∷ a.path; end = a.end; leads = (edge, a.leads); inside = a.inside }

-- one more arrow at the end
pub path_push : (g : MixedGraph) (a b c : ℕ) (path : List ℕ) → IsDirectedPath g a path b → IsTrue (g.arrow b c) → IsDirectedPath g a (path ++ c ∷ []) c
path_push g a b c [] p e = (subst (λ v. g.arrow v c ≡ true) (sym p) e, refl)
path_push g a b c (d ∷ rest) p e = (p.0, path_push g d b c rest p.1 e)

-- a path from a vertex stays below the number of vertices
pub path_below : (g : MixedGraph) → ((u v : ℕ) → IsTrue (g.arrow u v) → v < g.vertices) →
    (v : ℕ) (path : List ℕ) (u : ℕ) → v < g.vertices → IsDirectedPath g v path u → IsPathBelow g v path u
path_below g heads v [] u below p = (below, p)
path_below g heads v (x ∷ xs) u below p = (below, p.0, path_below g heads x xs u (heads v x p.0) p.1)

pub path_from_below : (g : MixedGraph) (v : ℕ) (path : List ℕ) (u : ℕ) → IsPathBelow g v path u → IsDirectedPath g v path u
path_from_below g v [] u p = p.1
path_from_below g v (x ∷ xs) u p = (p.1, path_from_below g x xs u p.2)

-- where it ends
pub end_below : (g : MixedGraph) → ((u v : ℕ) → IsTrue (g.arrow u v) → v < g.vertices) →
    (v : ℕ) (path : List ℕ) (u : ℕ) → v < g.vertices → IsDirectedPath g v path u → u < g.vertices
end_below g heads v [] u below p = subst (λ w. w < g.vertices) p below
end_below g heads v (x ∷ xs) u below p = end_below g heads x xs u (heads v x p.0) p.1

path_same : (g h : MixedGraph) → ((u v : ℕ) → g.arrow u v ≡ h.arrow u v) → (v : ℕ) (path : List ℕ) (u : ℕ) → IsDirectedPath g v path u
    → IsDirectedPath h v path u
path_same g h same v [] u p = p
path_same g h same v (x ∷ xs) u p = (sym (same v x) ∙ p.0, path_same g h same x xs u p.1)

-- ancestors are the same where the arrows are
pub ancestor_same : (g h : MixedGraph) (s : ℕ → Bool) (v : ℕ) → g.vertices ≡ h.vertices → ((u w : ℕ) → g.arrow u w ≡ h.arrow u w) → IsAncestor g s v
    → IsAncestor h s v
ancestor_same g h s v size same a = record {
  vertex = subst (λ n. v < n) size a.vertex;
  path = a.path;
  end = a.end;
  leads = path_same g h same v a.path a.end a.leads;
  inside = a.inside;
}
