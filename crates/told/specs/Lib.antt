pub mod Forms
pub mod Telling
pub mod Refusals
pub mod Commands
pub mod TwoInputs
pub mod Vocabulary
