pub mod Weakly
pub mod Vocabulary
