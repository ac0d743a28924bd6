pub mod Hedges
pub mod Models
pub mod Vocabulary
