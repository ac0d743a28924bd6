pub mod GraphFaults
pub mod TargetFaults
pub mod Vocabulary
