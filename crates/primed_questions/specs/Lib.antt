pub mod Refusals
pub mod Vocabulary
