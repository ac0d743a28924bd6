pub mod Edges
pub mod Vocabulary
