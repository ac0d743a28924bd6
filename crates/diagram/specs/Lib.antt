pub mod Observed
pub mod Sets
pub mod Vocabulary
