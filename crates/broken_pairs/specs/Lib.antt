pub mod Broken
pub mod Vocabulary
