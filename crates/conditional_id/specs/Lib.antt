pub mod Answers
pub mod Moves
pub mod Conditionals
pub mod TurnLaws
pub mod Settled
pub mod Masked
pub mod HedgeLaws
pub mod Vocabulary
