pub mod Notations
pub mod Texts
pub mod Printing
pub mod Lines
pub mod Vocabulary
