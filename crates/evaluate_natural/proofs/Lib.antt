mod Found
mod Evaluable
mod Covered
mod Replied
mod OneEffect
pub mod Lawful
