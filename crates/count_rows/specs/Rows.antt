-- The rows of a table of counts, and the sum of the counts of those that agree with an assignment.
use Rattle.std.specs.Prelude.{ℕ, zero, suc, List, [], ◌∷◌, ◌++◌, Bool, true, ◌&&◌, ◌||◌, ◌==◌, not, if◌then◌else◌, map, sum_by, unwrap_or}
use Rattle.mixed_graph.specs.Vocabulary.{index_of}
use Rattle.count_rows.specs.Records.{Field, Record, Layout, field_in, levels_at, count_of}

-- a row: the number of its level of each used vertex, in index order, and how often it was counted
pub record Row : Type 0 where
  pub cell : List ℕ
  pub count : ℕ

-- the cell has the level of `at` of each vertex of the set `of`
abbrev pub agrees : List ℕ → List ℕ → (ℕ → Bool) → (ℕ → ℕ) → Bool
agrees [] cell of at = true
agrees (v ∷ vs) [] of at = true
agrees (v ∷ vs) (x ∷ xs) of at = (not (of v) || (x == at v)) && agrees vs xs of at

-- N(A, a): the sum of the counts of the rows that agree with a on A
abbrev pub counted : List ℕ → List Row → (ℕ → Bool) → (ℕ → ℕ) → ℕ
counted vertices rows of at = sum_by (λ r. if agrees vertices r.cell of at then r.count else 0) rows

-- what a table of counts says: the used vertices in index order, the levels of each, and rows
pub record Table : Type 0 where
  pub vertices : List ℕ
  pub levels : List (List Field)
  pub rows : List Row

-- a record as a row: the numbers of its fields among the levels of all records, and its count
abbrev pub row_in : Layout → List Record → Record → Row
row_in layout rows r = record {
  cell = map (λ place. index_of (levels_at rows place) (field_in place r)) layout.places;
  count = unwrap_or (count_of layout.count_place r) 0;
}

-- the records as rows
unfoldable pub rows_in : Layout → List Record → List Row
rows_in layout rows = map (row_in layout rows) rows

-- f 0, .., f (n - 1)
abbrev pub list_below : ℕ → (ℕ → ℕ) → List ℕ
list_below zero f = []
list_below (suc n) f = list_below n f ++ f n ∷ []
