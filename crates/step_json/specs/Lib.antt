pub mod Reading
pub mod View
pub mod Words
pub mod Vocabulary
