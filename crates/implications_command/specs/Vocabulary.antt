-- What other crates cite of this one, from one place.
pub use Rattle.implications_command.specs.Command.{implications_command, implications_left}
pub use Rattle.implications_command.specs.CountsFaults.{counts_refusal}
pub use Rattle.implications_command.specs.Differences.{first_broken}
pub use Rattle.implications_command.specs.Lines.{pair_line}
pub use Rattle.implications_command.specs.Objects.{broken_members}
pub use Rattle.implications_command.specs.Pairs.{ArePairs, PlainPairs, pairs_in}
pub use Rattle.implications_command.specs.Requests.{implications_row}
pub use Rattle.implications_command.specs.Right.{IsForCounts, IsForGraph}
pub use Rattle.implications_command.specs.Telling.{implications_telling}
