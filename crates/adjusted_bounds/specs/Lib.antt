pub mod Adjusted
pub mod Vocabulary
