pub mod Primed
pub mod Vocabulary
