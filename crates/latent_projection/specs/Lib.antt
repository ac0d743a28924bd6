pub mod Laws
pub mod Projection
pub mod Removal
pub mod Renumbering
pub mod Vocabulary
