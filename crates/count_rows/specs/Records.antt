-- The records of a text, and their columns.
use Rattle.std.specs.Prelude.{ℕ, ◌*◌, List, [], ◌∷◌, length, map, fold, sum_by, slice_index_or, Option, Some, None, unwrap_or, option_map}
use Rattle.csv.specs.Reading.{default_config, strip_bom, records}
use Rattle.mixed_graph.specs.Vocabulary.{index_of, with_name}
use Rattle.count_rows.specs.Numbers.{count_in}

-- the bytes of a field
abbrev pub Field : Type 0
Field = List ℕ

-- a record is the list of its fields
abbrev pub Record : Type 0
Record = List Field

-- the records of a text as CSV's default reader cuts it, without its byte order mark
unfoldable pub records_of : List ℕ → List Record
records_of text = records default_config (strip_bom text)

-- the first record; a text without a record has a header without fields
abbrev pub header_of : List Record → Record
header_of [] = []
header_of (h ∷ rows) = h

-- the records behind the first
abbrev pub rows_of : List Record → List Record
rows_of [] = []
rows_of (h ∷ rows) = rows

-- where what is wanted stands in each record: the column of each used vertex, and that of the counts, if there is one
pub record Layout : Type 0 where
  pub places : List ℕ
  pub count_place : Option ℕ

-- each name's column is where the header has it
abbrev pub layout_of : Record → List Field → Option Field → Layout
layout_of header used count = record { places = map (index_of header) used; count_place = option_map (index_of header) count }

-- a record's field in a column
abbrev pub field_in : ℕ → Record → Field
field_in place r = slice_index_or r place []

-- the levels in a column: its different fields, in order of first appearance
unfoldable pub levels_at : List Record → ℕ → List Field
levels_at rows place = fold with_name [] (map (field_in place) rows)

-- the levels in each used column
abbrev pub levels_of : Layout → List Record → List (List Field)
levels_of layout rows = map (levels_at rows) layout.places

-- the count of a record: 1 without a column of counts
abbrev pub count_of : Option ℕ → Record → Option ℕ
count_of None r = Some 1
count_of (Some place) r = count_in (field_in place r)

-- the sum of the counts of the records
abbrev pub sum_of : Layout → List Record → ℕ
sum_of layout rows = sum_by (λ r. unwrap_or (count_of layout.count_place r) 0) rows

-- the product of the numbers
abbrev pub product : List ℕ → ℕ
product [] = 1
product (n ∷ ns) = n * product ns

-- how many cells a table with these levels has
abbrev pub cell_count : List (List Field) → ℕ
cell_count levels = product (map (λ ys. length ys) levels)
