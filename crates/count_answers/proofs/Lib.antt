pub mod Texts
pub mod OneReading
mod Levels
