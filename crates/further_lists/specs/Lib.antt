pub mod Faults
pub mod Vocabulary
