-- What was read of the rows so far.
use Rattle.std.specs.Prelude.{◌≡◌, List}
use Rattle.std.specs.List.{flat_map}
use Rattle.std.specs.Prelude.{map}
use Rattle.count_rows.specs.declared.tally.Tally.{Tally}
use Rattle.count_rows.specs.declared.tally.Columns.{Columns}
use Rattle.count_rows.specs.Records.{Record, Layout, levels_of, sum_of}
use Rattle.count_rows.specs.Rows.{rows_in}

-- the columns as a layout
abbrev pub layout_from : Columns → Layout
layout_from c = record { places = c.places.items; count_place = c.count_place }

-- the levels, rows and sum of counts of these records
pub record HoldsRecords (layout : Layout) (rows : List Record) (tally : Tally) : Type 0 where
  pub levels : tally.levels.items ≡ levels_of layout rows
  pub cells : tally.cells.items ≡ flat_map (λ r. r.cell) (rows_in layout rows)
  pub counts : tally.counts.items ≡ map (λ r. r.count) (rows_in layout rows)
  pub sum : tally.sum ≡ sum_of layout rows
