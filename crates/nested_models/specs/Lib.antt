pub mod Nested
pub mod NoFormula
pub mod Split
pub mod Vocabulary
