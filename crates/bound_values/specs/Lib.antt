pub mod Questions
pub mod Values
pub mod Cells
pub mod Told
pub mod Found
pub mod Vocabulary
