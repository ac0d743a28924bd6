pub mod Sets
pub mod Terms
pub mod Right
pub mod Answers
pub mod Vocabulary
