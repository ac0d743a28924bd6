pub mod Words
pub mod Parts
pub mod Views
pub mod Sets
pub mod Lines
pub mod Vocabulary
