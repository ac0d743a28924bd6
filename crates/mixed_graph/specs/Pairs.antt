-- Edges as lists of pairs.
use Rattle.std.specs.Prelude.{◌≡◌, ℕ, ◌+◌, ◌-◌, ◌<◌, ◌≤◌, Bool, ◌&&◌, ◌==◌, List, Option, Some, None, option_map, find, slice_index, IsTrue}
use Rattle.std.specs.List.{list_any}

-- whether the pair (a, b) is in the list
abbrev pub has_pair : List (ℕ × ℕ) → ℕ → ℕ → Bool
has_pair pairs a b = list_any (λ p. (a == p.0) && (b == p.1)) pairs

-- the vertex of the first pair with equal ends
abbrev pub loop_in : List (ℕ × ℕ) → Option ℕ
loop_in pairs = option_map (λ p. p.0) (find (λ p. p.0 == p.1) pairs)

-- the same of two lists, the one after the other
abbrev pub first_loop : List (ℕ × ℕ) → List (ℕ × ℕ) → Option ℕ
first_loop directed both = elim (loop_in directed) [ Some v ↦ Some v | None ↦ loop_in both ]

-- the first `count` entries are a cycle without a repeated vertex, which begins with its lowest member
pub record IsCycle (arrow : ℕ → ℕ → Bool) (list : List ℕ) (count : ℕ) : Type 0 where
  pub nonempty : 0 < count
  pub next : (i : ℕ) → i + 1 < count → IsTrue (arrow (slice_index list i) (slice_index list (i + 1)))
  pub closes : IsTrue (arrow (slice_index list (count - 1)) (slice_index list 0))
  pub lowest : (i : ℕ) → i < count → slice_index list 0 ≤ slice_index list i
  pub once : (i j : ℕ) → i < j → j < count → slice_index list i ≡ slice_index list j → ⊥
