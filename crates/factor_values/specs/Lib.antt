pub mod Factors
pub mod Outcomes
pub mod Laws
pub mod Code
pub mod Cells
pub mod Vocabulary
