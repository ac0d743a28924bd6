pub mod Named
pub mod Shapes
pub mod Covers
pub mod Vocabulary
