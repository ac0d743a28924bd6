pub mod Requests
pub mod Lines
pub mod Objects
pub mod Telling
pub mod Right
pub mod Command
pub mod Vocabulary
