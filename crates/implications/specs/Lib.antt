pub mod Implications
pub mod Laws
pub mod Links
pub mod Separable
pub mod Steps
pub mod Vocabulary
