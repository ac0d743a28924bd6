pub mod Crossed
pub mod Vocabulary
