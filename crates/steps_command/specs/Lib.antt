pub mod Requests
pub mod Texts
pub mod Objects
pub mod Telling
pub mod Right
pub mod Command
pub mod Vocabulary
