pub mod Walked
mod Stops
mod Replied
pub mod Exclusive
pub mod Lawful
mod OneDerivation
pub mod OneText
