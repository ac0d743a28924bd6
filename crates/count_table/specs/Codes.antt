-- Cells packed into numbers: each vertex has a field of bits of its own.
use Rattle.std.specs.Prelude.{ℕ, zero, suc, ◌+◌, ◌*◌, ◌-◌, ◌^◌, nat_le, sum_by, List, [], ◌∷◌, Bool, if◌then◌else◌}

-- the least w up to k with n at most 2 ^ w: as many bits as the numbers below n need
unfoldable pub bits_for : ℕ → ℕ → ℕ
bits_for zero n = 0
bits_for (suc k) n = if nat_le n (2 ^ k) then bits_for k n else suc k

-- one more than the highest number in the field of a vertex with n levels, of which there are at most 2 ^ 20
unfoldable pub room : ℕ → ℕ
room n = 2 ^ bits_for 20 n

-- the bits of the fields of all vertices together, which have these numbers of levels
abbrev pub code_bits : List ℕ → ℕ
code_bits sizes = sum_by (bits_for 20) sizes

-- a cell as one number: the field of the first vertex is the lowest
unfoldable pub code_of_cell : List ℕ → List ℕ → ℕ
code_of_cell [] xs = 0
code_of_cell (n ∷ ns) [] = 0
code_of_cell (n ∷ ns) (x ∷ xs) = code_of_cell ns xs * room n + x

-- all bits of the fields of the vertices of a set
unfoldable pub mask_under : List ℕ → List ℕ → (ℕ → Bool) → ℕ
mask_under [] sizes of = 0
mask_under (v ∷ vs) [] of = 0
mask_under (v ∷ vs) (n ∷ ns) of = mask_under vs ns of * room n + (if of v then room n - 1 else 0)

-- an assignment as one number, with 0 in the fields of the other vertices
unfoldable pub code_under : List ℕ → List ℕ → (ℕ → Bool) → (ℕ → ℕ) → ℕ
code_under [] sizes of at = 0
code_under (v ∷ vs) [] of at = 0
code_under (v ∷ vs) (n ∷ ns) of at = code_under vs ns of at * room n + (if of v then at v else 0)
