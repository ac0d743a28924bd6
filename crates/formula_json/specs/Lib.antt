pub mod Trees
pub mod Vocabulary
