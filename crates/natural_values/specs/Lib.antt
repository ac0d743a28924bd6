pub mod Factors
pub mod Naming
pub mod Right
pub mod Vocabulary
