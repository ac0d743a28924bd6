pub mod Quotes
pub mod Joining
pub mod OneWord
pub mod OneSet
pub mod Walked
pub mod Filled
pub mod NoFault
