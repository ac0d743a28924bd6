-- What other crates cite of this one, from one place.
pub use Rattle.count_answers.specs.Lines.{assignment, assignments, level_text, printed_level, with_commas}
pub use Rattle.count_answers.specs.Reads.{HoldsCounts}
