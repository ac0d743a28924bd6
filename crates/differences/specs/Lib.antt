pub mod Minus
pub mod Kinds
pub mod Lawful
pub mod Laws
pub mod Theorems
pub mod Vocabulary
