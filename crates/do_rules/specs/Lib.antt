pub mod Rules
pub mod Cuts
pub mod Vocabulary
