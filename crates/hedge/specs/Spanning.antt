-- A tree of links over a joined set: each vertex is joined to one that was found before it.
use Rattle.std.specs.Prelude.{◌≡◌, ℕ, ◌<◌, ◌≤◌, ◌⊎◌, Bool, false, List, IsTrue, slice_index}
use Rattle.mixed_graph.specs.Vocabulary.{MixedGraph, taken_by}

-- v is the lowest member of s
pub record IsLowest (s : ℕ → Bool) (v : ℕ) : Type 0 where
  pub member : IsTrue (s v)
  pub least : (u : ℕ) → IsTrue (s u) → v ≤ u

-- v is joined by a bidirected edge to a found vertex
pub record IsJoinedTo (g : MixedGraph) (found : ℕ → Bool) (v : ℕ) : Type 0 where
  pub other : ℕ
  pub is_found : IsTrue (found other)
  pub edge : IsTrue (g.both v other)

-- v is the lowest member of s that isn't found and is joined to a found vertex
pub record IsNextOf (g : MixedGraph) (s found : ℕ → Bool) (v : ℕ) : Type 0 where
  pub member : IsTrue (s v)
  pub new : found v ≡ false
  pub joined : IsJoinedTo g found v
  pub least : (u : ℕ) → IsTrue (s u) → found u ≡ false → IsJoinedTo g found u → v ≤ u

-- v is next of small; or all of small is found, and v is next of big
abbrev pub IsNextLink : MixedGraph → (small big found : ℕ → Bool) → ℕ → Type 0
IsNextLink g small big found v = IsNextOf g small found v ⊎ (((u : ℕ) → IsTrue (small u) → IsTrue (found u)) × IsNextOf g big found v)

-- p is the earliest of the first i entries that is joined to v
pub record IsEarliest (g : MixedGraph) (found : List ℕ) (i v p : ℕ) : Type 0 where
  pub place : ℕ
  pub earlier : place < i
  pub is : slice_index found place ≡ p
  pub joined : IsTrue (g.both v p)
  pub earliest : (j : ℕ) → j < place → g.both v (slice_index found j) ≡ false

-- the first `count` entries list all of big: the lowest member of small first, then each time the next link, each with its earliest partner
pub record AreLinks (g : MixedGraph) (small big : ℕ → Bool) (found partner : List ℕ) (count : ℕ) : Type 0 where
  pub some : 0 < count
  pub first : IsLowest small (slice_index found 0)
  pub next : (i : ℕ) → 0 < i → i < count → IsNextLink g small big (taken_by found i) (slice_index found i)
  pub partners : (i : ℕ) → 0 < i → i < count → IsEarliest g found i (slice_index found i) (slice_index partner i)
  pub all : (v : ℕ) → IsTrue (big v) → IsTrue (taken_by found count v)
