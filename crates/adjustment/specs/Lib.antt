pub mod Criteria
pub mod Faults
pub mod Formulas
pub mod Laws
pub mod Parts
pub mod Proper
pub mod Vocabulary
