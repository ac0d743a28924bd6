mod NoWays
mod AskedSets
mod FirstReplies
pub mod InModels
pub mod Known
mod OneQuestion
mod Alike
pub mod Exclusive
pub mod Lawful
