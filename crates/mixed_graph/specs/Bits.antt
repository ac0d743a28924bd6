use Rattle.std.specs.Prelude.{ℕ, zero, suc, Bool, List, [], ◌∷◌, ◌++◌, if◌then◌else◌, ◌==◌}
use Rattle.std.specs.Int.{bit_at}

-- whether v is a member of the set that the mask holds: bit v is set
unfoldable pub has : ℕ → ℕ → Bool
has mask v = bit_at mask v == 1

-- the members below k of a set, in ascending order
unfoldable pub members_below : (ℕ → Bool) → ℕ → List ℕ
members_below s zero = []
members_below s (suc k) = members_below s k ++ (if s k then (k ∷ []) else [])
