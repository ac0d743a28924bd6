-- What other crates cite of this one, from one place.
pub use Rattle.bounds_command.specs.Asking.{IsAsked}
pub use Rattle.bounds_command.specs.BoundsTelling.{bounds_telling}
pub use Rattle.bounds_command.specs.Command.{bounds_command, bounds_left}
pub use Rattle.bounds_command.specs.Faults.{bounds_refusal}
pub use Rattle.bounds_command.specs.First.{lists_of, unmet_telling}
pub use Rattle.bounds_command.specs.Requests.{bounds_row, request_of}
pub use Rattle.bounds_command.specs.Right.{CountsAnswer, Encloses, EndHolds, HoldsInModels, IsForCounts}
