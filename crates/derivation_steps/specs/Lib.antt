pub mod Moves
pub mod Questions
pub mod Asked
pub mod Traces
pub mod Parts
pub mod Vocabulary
