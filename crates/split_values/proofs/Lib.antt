pub mod Consistency
pub mod Enclosing
pub mod Matching
mod Same
pub mod Splitting
