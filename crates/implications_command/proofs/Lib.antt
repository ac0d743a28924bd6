mod Naming
mod Pieces
mod Using
mod Measuring
mod OneList
pub mod SameList
pub mod Exclusive
pub mod Lawful
pub mod OneText
