pub mod Fractions
pub mod Laws
pub mod Vocabulary
