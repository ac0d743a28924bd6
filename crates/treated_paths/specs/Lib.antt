pub mod Paths
pub mod TwoValues
