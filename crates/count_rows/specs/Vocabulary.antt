-- What other crates cite of this one, from one place.
pub use Rattle.count_rows.specs.FaultTexts.{count_fault_text, count_size_text}
pub use Rattle.count_rows.specs.Faults.{IsExpectedFault, empty_fault, most_cells, or_else, used_names}
pub use Rattle.count_rows.specs.Levels.{AreLevels}
pub use Rattle.count_rows.specs.Numbers.{most_counted}
pub use Rattle.count_rows.specs.Records.{Field, Layout, Record, cell_count, count_of, field_in, header_of, layout_of, levels_of, product, rows_of, sum_of}
pub use Rattle.count_rows.specs.Rows.{Row, Table, agrees, counted, row_in}
pub use Rattle.count_rows.specs.Tally.{HoldsRecords}
-- These may be unfolded there.
unfoldable pub use Rattle.count_rows.specs.Faults.{header_fault, records_fault, row_fault, rows_fault}
-- These may be unfolded there.
unfoldable pub use Rattle.count_rows.specs.Records.{levels_at, records_of}
-- These may be unfolded there.
unfoldable pub use Rattle.count_rows.specs.Rows.{rows_in}
