pub mod Told
pub mod Refusals
pub mod Observed
pub mod Outcomes
pub mod OneOutcome
pub mod Lines
pub mod Command
pub mod Vocabulary
