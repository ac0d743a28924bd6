-- What other crates cite of this one, from one place.
pub use Rattle.evaluate_command.specs.Breaks.{IsBreak}
pub use Rattle.evaluate_command.specs.Cells.{CellValue, values_at}
pub use Rattle.evaluate_command.specs.Command.{evaluate_command, evaluate_left}
pub use Rattle.evaluate_command.specs.Effects.{Identifies, PlainEffect, effect_in, target_of}
pub use Rattle.evaluate_command.specs.First.{HasHedge, HasJointHedge, IsForDiagram}
pub use Rattle.evaluate_command.specs.Lines.{doing_text, given_text, pinned_lines, sign_of}
pub use Rattle.evaluate_command.specs.Listed.{bounds_numbers, exact_numbers, plain_in, plain_of}
pub use Rattle.evaluate_command.specs.Objects.{cell_members, quantity_members}
pub use Rattle.evaluate_command.specs.Requests.{evaluate_row, request_of}
pub use Rattle.evaluate_command.specs.Right.{CoversEffect, IsForCounts, IsForTable, IsOverTable}
pub use Rattle.evaluate_command.specs.Telling.{evaluate_telling}
pub use Rattle.evaluate_command.specs.ValuesFaults.{values_refusal}
pub use Rattle.evaluate_command.specs.Ways.{by_adjusting, by_condition, by_procedure}
