-- The cells of a dense table.
use Rattle.std.specs.Prelude.{ℕ, ◌+◌, ◌*◌, ◌<◌, ◌==◌, List, [], ◌∷◌, map, length, take, drop, sum_by, if◌then◌else◌}
use Rattle.std.specs.List.{flat_map, range_with_len}
use Rattle.count_rows.specs.Vocabulary.{Field, product, Row}

-- all cells in order: each vertex with each number below its number of levels, that of the first vertex slowest
unfoldable pub cells_of : List ℕ → List (List ℕ)
cells_of [] = [] ∷ []
cells_of (n ∷ ns) = flat_map (λ k. map (λ (cell : List ℕ). k ∷ cell) (cells_of ns)) (range_with_len 0 n)

-- the place of a cell among them: its numbers in mixed radix
unfoldable pub place_of : List ℕ → List ℕ → ℕ
place_of [] xs = 0
place_of (n ∷ ns) [] = 0
place_of (n ∷ ns) (x ∷ xs) = x * product ns + place_of ns xs

-- how many levels each vertex has
abbrev pub sizes_of : List (List Field) → List ℕ
sizes_of levels = map (λ (ys : List Field). length ys) levels

-- cells with their counts, as rows
unfoldable pub rows_with : List (List ℕ) → List ℕ → List Row
rows_with [] counts = []
rows_with (cell ∷ cells) [] = []
rows_with (cell ∷ cells) (n ∷ counts) = record { cell = cell; count = n } ∷ rows_with cells counts

-- the sum of all counts
abbrev pub total : List Row → ℕ
total rows = sum_by (λ r. r.count) rows

-- the sum of the counts of the rows whose cell has this place
abbrev pub count_at : List ℕ → List Row → ℕ → ℕ
count_at sizes rows place = sum_by (λ r. if place_of sizes r.cell == place then r.count else 0) rows

-- one number for each vertex, below its number of levels
abbrev pub IsCell : List ℕ → List ℕ → Type 0
IsCell [] [] = Unit {0}
IsCell [] (x ∷ xs) = ⊥
IsCell (n ∷ ns) [] = ⊥
IsCell (n ∷ ns) (x ∷ xs) = (x < n) × IsCell ns xs

-- rows whose cells stand one behind the other, with so many numbers each
unfoldable pub rows_from : ℕ → List ℕ → List ℕ → List Row
rows_from width numbers [] = []
rows_from width numbers (n ∷ counts) = record { cell = take width numbers; count = n } ∷ rows_from width (drop width numbers) counts
