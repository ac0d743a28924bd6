pub mod Progress
pub mod Tokens
pub mod Written
pub mod Codes
pub mod Values
pub mod Faults
pub mod Vocabulary
