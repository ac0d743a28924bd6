-- Why a text gives no counts: the first fault, of the header before the rows, and of the rows before their sum.
use Rattle.std.specs.Prelude.{ℕ, ◌+◌, ◌^◌, List, [], ◌∷◌, ◌++◌, length, map, count_by, ◌==◌, nat_le, ◌≡◌, ◌≢◌, not, if◌then◌else◌, is_none, Option, Some, None}
use Rattle.std.specs.Option.{option_to_list}
use Rattle.std.specs.Str.{bytes_eq}
use Rattle.mixed_graph.specs.Vocabulary.{has, members_below, name_of}
use Rattle.count_rows.specs.declared.fault.CountFault.{CountFault}
use Rattle.count_rows.specs.declared.fault.CountFault.TheVariants.{NotCsv, NoColumn, TwoColumns, Count, TooLarge, SumTooLarge, NoRows, NoMemory}
use Rattle.count_rows.specs.Numbers.{most_counted}
use Rattle.count_rows.specs.Records.{Field, Record, Layout, layout_of, header_of, rows_of, levels_of, count_of, sum_of, cell_count}

-- the fault, or else the other
abbrev pub or_else : Option CountFault → Option CountFault → Option CountFault
or_else None other = other
or_else (Some fault) other = Some fault

-- the fault of a header for a name: it isn't there, or it is there twice
abbrev pub name_fault : Record → Field → Option CountFault
name_fault header name =
    if count_by (bytes_eq name) header == 0 then Some (NoColumn name)
    else if count_by (bytes_eq name) header == 1 then None
    else Some (TwoColumns name)

-- the first fault of a header for these names, in order
unfoldable pub header_fault : Record → List Field → Option CountFault
header_fault header [] = None
header_fault header (name ∷ names) = or_else (name_fault header name) (header_fault header names)

-- the most cells that a table may have
abbrev pub most_cells : ℕ
most_cells = 2 ^ 20

-- the fault of the row r behind these: its number of fields, its count, then the levels and the counts of the rows up to it
unfoldable pub row_fault : ℕ → Layout → List Record → Record → Option CountFault
row_fault width layout before r =
    if not (length r == width) then Some (NotCsv (length before + 1))
    else if is_none (count_of layout.count_place r) then Some (Count (length before + 1))
    else if not (nat_le (cell_count (levels_of layout (before ++ r ∷ []))) most_cells) then Some TooLarge
    else if not (nat_le (sum_of layout (before ++ r ∷ [])) most_counted) then Some SumTooLarge
    else None

-- the first fault of the rows behind these, in order
unfoldable pub rows_fault : ℕ → Layout → List Record → List Record → Option CountFault
rows_fault width layout before [] = None
rows_fault width layout before (r ∷ rows) = or_else (row_fault width layout before r) (rows_fault width layout (before ++ r ∷ []) rows)

-- the fault of a table without a count
abbrev pub empty_fault : Layout → List Record → Option CountFault
empty_fault layout rows = if sum_of layout rows == 0 then Some NoRows else None

-- the names of the used vertices, in index order
abbrev pub used_names : List Field → ℕ → List Field
used_names names used = map (name_of names) (members_below (has used) 64)

-- why these records give no counts of the used names, with this column of counts
unfoldable pub records_fault : List Record → List Field → Option Field → Option CountFault
records_fault records used count =
    or_else (header_fault (header_of records) (used ++ option_to_list count))
    (or_else (rows_fault (length (header_of records)) (layout_of (header_of records) used count) [] (rows_of records))
    (empty_fault (layout_of (header_of records) used count) (rows_of records)))

-- a fault is the expected one; want of memory may come instead
abbrev pub IsExpectedFault : Option CountFault → CountFault → Type 0
IsExpectedFault expected fault = fault ≢ NoMemory → expected ≡ Some fault
