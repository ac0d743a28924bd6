pub mod Values
pub mod Districts
pub mod Leading
pub mod Found
pub mod Making
pub mod Answered
pub mod One
