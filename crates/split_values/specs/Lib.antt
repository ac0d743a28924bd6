pub mod Values
pub mod Outcomes
pub mod Laws
pub mod Code
pub mod Vocabulary
