-- What other crates cite of this one, from one place.
pub use Rattle.paired_values.specs.Bytes.{IsForBytes, IsTableFault}
pub use Rattle.paired_values.specs.Cells.{IsNameCell, observed_axes, printed_cells, second_levels}
pub use Rattle.paired_values.specs.Flags.{HaveNoPlainFlag}
pub use Rattle.paired_values.specs.Lines.{axis_text, values_text}
pub use Rattle.paired_values.specs.Objects.{axes_json, pinned_json, values_json}
pub use Rattle.paired_values.specs.Readings.{IsOver, IsReadable, PlainPaired, PlainReading, by_factors, by_split, paired_view, pinned_in, read_in, sets_of}
pub use Rattle.paired_values.specs.Values.{AreValuesOver, IsWhyNone, PlainFault, are_exact, below, covers_in, encloses_in, is_wanting, kind_in, minus_in, outcome_at, plain_values, stopped, value_in, values_at}
