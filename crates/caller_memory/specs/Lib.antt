pub mod Parts
pub mod Held
pub mod Laws
pub mod Words
pub mod Kept
pub mod Lines
pub mod Vocabulary
