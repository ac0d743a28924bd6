pub mod Lines
pub mod Objects
pub mod Telling
pub mod Faults
pub mod Right
pub mod Decisions
pub mod Command
pub mod Vocabulary
