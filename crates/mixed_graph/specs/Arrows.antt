-- Words for the search of a cycle, inside this crate.
use Rattle.std.specs.Prelude.{◌≡◌, ℕ, ◌+◌, ◌-◌, ◌<◌, ◌≤◌, Bool, false, List, [], ◌∷◌, IsTrue, slice_index, if◌then◌else◌, nat_lt}
use Rattle.mixed_graph.specs.Bits.{has}
use Rattle.mixed_graph.specs.Graphs.{MixedGraph, graph_from}

-- a directed path all of whose vertices are below `vertices`
abbrev pub IsPathBelow : MixedGraph → ℕ → List ℕ → ℕ → Type 0
IsPathBelow g v [] u = (v < g.vertices) × (v ≡ u)
IsPathBelow g v (x ∷ xs) u = (v < g.vertices) × IsTrue (g.arrow v x) × IsPathBelow g x xs u

-- the graph of the arrows alone
abbrev pub arrows_only : ℕ → List ℕ → MixedGraph
arrows_only n children = graph_from n children []

-- the graph without bidirected edges in which row v holds the tails of the arrows into v
abbrev pub graph_of_rows : ℕ → List ℕ → MixedGraph
graph_of_rows n rows = record { vertices = n; arrow = λ u v. has (slice_index rows v) u; both = λ u v. false }

-- no directed path of two or more vertices leads from a back to a
abbrev pub IsOnNoCycle : MixedGraph → ℕ → Type 0
IsOnNoCycle g a = (c : ℕ) (rest : List ℕ) → IsPathBelow g a (c ∷ rest) a → ⊥

-- a has an arrow to a member of the set
abbrev pub HasChildIn : List ℕ → ℕ → ℕ → Type 0
HasChildIn children a mask = (b : ℕ) × IsTrue (has mask b) × IsTrue (has (slice_index children a) b)

-- no child of a is in the set
abbrev pub HasNoChildIn : List ℕ → ℕ → ℕ → Type 0
HasNoChildIn children a mask = (b : ℕ) → IsTrue (has (slice_index children a) b) → has mask b ≡ false

-- each of the first `count` entries has an arrow to the next, the last has one to entry `back`, and no vertex stands twice
pub record IsLasso (arrow : ℕ → ℕ → Bool) (list : List ℕ) (count back : ℕ) : Type 0 where
  pub in_range : count ≤ 64
  pub inside : back < count
  pub next : (i : ℕ) → i + 1 < count → IsTrue (arrow (slice_index list i) (slice_index list (i + 1)))
  pub closes : IsTrue (arrow (slice_index list (count - 1)) (slice_index list back))
  pub once : (i j : ℕ) → i < j → j < count → slice_index list i ≡ slice_index list j → ⊥

-- place i of the entries from `back` to `count`, counted from p on and round
abbrev pub turn : ℕ → ℕ → ℕ → ℕ → ℕ
turn back count p i = if nat_lt (p + i) count then (p + i) else (p + i - (count - back))
