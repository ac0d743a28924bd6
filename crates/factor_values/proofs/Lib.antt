mod Covering
pub mod Matching
pub mod Walking
