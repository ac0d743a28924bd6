-- What other crates cite of this one, from one place.
pub use Rattle.count_json.specs.Cells.{cell_json, level_json}
pub use Rattle.count_json.specs.CountFaults.{count_fault_json, count_size_json}
pub use Rattle.count_json.specs.Stops.{cell_members, definition_json, evaluation_fault_json, stop_json, why_number}
-- These may be unfolded there.
unfoldable pub use Rattle.count_json.specs.Stops.{stage, why_message}
