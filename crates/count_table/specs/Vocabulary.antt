-- What other crates cite of this one, from one place.
pub use Rattle.count_table.specs.Axes.{HasCell, axes_of, cell_at, cells_over, place_at}
pub use Rattle.count_table.specs.Cells.{IsCell, sizes_of, total}
pub use Rattle.count_table.specs.LaneSums.{sum_below}
pub use Rattle.count_table.specs.Reading.{IsTableOf, layout_in, text_fault}
pub use Rattle.count_table.specs.Sums.{AreSums, Margins, cells_in, cells_under, sets_with}
pub use Rattle.count_table.specs.Tables.{AreCounts, HasLevels, levels_in}
-- These may be unfolded there.
unfoldable pub use Rattle.count_table.specs.Cells.{cells_of, place_of}
