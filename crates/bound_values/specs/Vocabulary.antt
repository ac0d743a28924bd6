-- What other crates cite of this one, from one place.
pub use Rattle.bound_values.specs.Cells.{crossing_vertices, printed_cells, printed_vertices}
pub use Rattle.bound_values.specs.Found.{IsFound, IsUnfound, are_crossed, crossing_in}
pub use Rattle.bound_values.specs.Questions.{asked_of, fixed_mask, has_pairs, joint_mask, joint_set, level_set}
pub use Rattle.bound_values.specs.Told.{AreEnds, both_ends, bounds_at, cell_bounds, end_value, number_of}
pub use Rattle.bound_values.specs.Values.{MayBeUsed, in_place, over_table}
-- These may be unfolded there.
unfoldable pub use Rattle.bound_values.specs.Cells.{first_cell}
