mod Answering
mod OneSets
mod Surveying
mod Tallying
pub mod Lawful
pub mod OneText
pub mod Counting
pub mod Drawing
pub mod Stepping
