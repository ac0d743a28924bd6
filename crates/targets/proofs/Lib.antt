pub mod Parts
pub mod Faults
pub mod Queries
pub mod RuleWalks
pub mod Walking
pub mod Effects
pub mod Disjoint
