-- What other crates cite of this one, from one place.
pub use Rattle.told.specs.Commands.{told_on_file}
pub use Rattle.told.specs.Forms.{form_for, is_certified, notation_of, plain_form}
pub use Rattle.told.specs.Refusals.{is_memory, target_refusal}
pub use Rattle.told.specs.Telling.{Refusal, Tells, is_wanting, outcome_in, told_in}
pub use Rattle.told.specs.TwoInputs.{told_on_two_inputs}
