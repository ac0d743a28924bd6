-- What other crates cite of this one, from one place.
pub use Rattle.table_cells.specs.Cells.{level_count, with_levels, cells_along, first_cell, IsCell}
