pub mod Choice
pub mod Vocabulary
