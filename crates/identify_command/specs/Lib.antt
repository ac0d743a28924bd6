pub mod Forms
pub mod Telling
pub mod Right
pub mod Requests
pub mod Command
pub mod Laws
pub mod Vocabulary
