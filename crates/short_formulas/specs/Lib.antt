pub mod Length
pub mod Short
pub mod Vocabulary
