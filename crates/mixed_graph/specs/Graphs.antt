-- Acyclic mixed graphs: directed edges, and bidirected ones for hidden common causes (Pearl, Causality, chapters 1 and 3).
use Rattle.std.specs.Prelude.{◌≡◌, ℕ, ◌<◌, Bool, false, ◌&&◌, List, [], ◌∷◌, IsTrue, slice_index}
use Rattle.mixed_graph.specs.Bits.{has}

-- a graph on the vertices below `vertices`: whether u -> v, and whether u <-> v
pub record MixedGraph : Type 0 where
  pub vertices : ℕ
  pub arrow : ℕ → ℕ → Bool
  pub both : ℕ → ℕ → Bool

-- a directed path from v to u: the vertices after v are the list, each has an arrow from the one before, and u is the last, or v for none
abbrev pub IsDirectedPath : MixedGraph → ℕ → List ℕ → ℕ → Type 0
IsDirectedPath g v [] u = v ≡ u
IsDirectedPath g v (x ∷ xs) u = IsTrue (g.arrow v x) × IsDirectedPath g x xs u

-- the vertex v has a directed path to a member of s; a member has the path of one vertex
pub record IsAncestor (g : MixedGraph) (s : ℕ → Bool) (v : ℕ) : Type 0 where
  pub vertex : v < g.vertices
  pub path : List ℕ
  pub end : ℕ
  pub leads : IsDirectedPath g v path end
  pub inside : IsTrue (s end)

-- the vertex v has a directed path from a member of s
pub record IsDescendant (g : MixedGraph) (s : ℕ → Bool) (v : ℕ) : Type 0 where
  pub vertex : v < g.vertices
  pub path : List ℕ
  pub start : ℕ
  pub leads : IsDirectedPath g start path v
  pub inside : IsTrue (s start)

-- no directed path of two or more vertices ends where it begins
abbrev pub IsAcyclic : MixedGraph → Type 0
IsAcyclic g = (v x : ℕ) (xs : List ℕ) → IsDirectedPath g v (x ∷ xs) v → ⊥

-- what is true of each graph: edges have their ends below `vertices`, bidirected edges are symmetric without a loop, arrows acyclic
pub record IsMixedGraph (g : MixedGraph) : Type 0 where
  pub tail_below : (u v : ℕ) → IsTrue (g.arrow u v) → u < g.vertices
  pub head_below : (u v : ℕ) → IsTrue (g.arrow u v) → v < g.vertices
  pub both_below : (u v : ℕ) → IsTrue (g.both u v) → u < g.vertices
  pub symmetric : (u v : ℕ) → IsTrue (g.both u v) → IsTrue (g.both v u)
  pub no_loop : (v : ℕ) → g.both v v ≡ false
  pub acyclic : IsAcyclic g

-- the graph whose rows of bits are these: u -> v where children[u] has v, u <-> v where spouses[u] has v
abbrev pub graph_from : ℕ → List ℕ → List ℕ → MixedGraph
graph_from n children spouses = record {
  vertices = n;
  arrow = λ u v. has (slice_index children u) v;
  both = λ u v. has (slice_index spouses u) v;
}

-- parents[v] has u exactly where children[u] has v
abbrev pub Agree : List ℕ → List ℕ → Type 0
Agree parents children = (u v : ℕ) → has (slice_index parents v) u ≡ has (slice_index children u) v

-- g with the arrows from `tails` to `heads` alone, and the bidirected edges inside `ends` alone
abbrev pub restricted : MixedGraph → (tails heads ends : ℕ → Bool) → MixedGraph
restricted g tails heads ends = record g {
  arrow = λ u v. g.arrow u v && (tails u && heads v);
  both = λ u v. g.both u v && (ends u && ends v);
}

-- g with the edges inside s alone
abbrev pub induced : MixedGraph → (ℕ → Bool) → MixedGraph
induced g s = restricted g s s s
