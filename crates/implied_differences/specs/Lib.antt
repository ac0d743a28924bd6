pub mod Blocks
pub mod Candidates
pub mod Differences
pub mod Laws
pub mod Layouts
pub mod Vocabulary
