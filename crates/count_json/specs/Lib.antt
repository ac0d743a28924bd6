pub mod CountFaults
pub mod Cells
pub mod Stops
pub mod Refusals
pub mod Vocabulary
