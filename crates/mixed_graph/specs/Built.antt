-- What pairs of vertices make: a graph, or what keeps them from being one.
use Rattle.std.specs.Prelude.{◌≡◌, ℕ, ◌||◌, List, Some, None}
use Rattle.mixed_graph.specs.Graphs.{MixedGraph}
use Rattle.mixed_graph.specs.Pairs.{has_pair, first_loop, IsCycle}
use Rattle.mixed_graph.specs.declared.mixed.BuildFault.{BuildFault}
use Rattle.mixed_graph.specs.declared.mixed.BuildFault.TheVariants.{SelfLoop, Cycle}

-- the graph on the vertices below n that has these edges and no other
pub record IsGraphOf (n : ℕ) (directed both : List (ℕ × ℕ)) (g : MixedGraph) : Type 0 where
  pub size : g.vertices ≡ n
  pub arrows : (a b : ℕ) → g.arrow a b ≡ has_pair directed a b
  pub spouses : (a b : ℕ) → g.both a b ≡ (has_pair both a b || has_pair both b a)

-- the fault of such pairs: the first pair with equal ends, or, where there is none, a directed cycle
abbrev pub IsBuildFault : List (ℕ × ℕ) → List (ℕ × ℕ) → BuildFault → Type 0
IsBuildFault directed both (SelfLoop v) = first_loop directed both ≡ Some v
IsBuildFault directed both (Cycle c) = (first_loop directed both ≡ None) × IsCycle (has_pair directed) c.list c.count
