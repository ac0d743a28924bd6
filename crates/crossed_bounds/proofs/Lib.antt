pub mod Pairs
pub mod Levels
pub mod Outcomes
pub mod Counted
pub mod Sharper
pub mod Others
pub mod Summed
