pub mod Parts
pub mod Vocabulary
