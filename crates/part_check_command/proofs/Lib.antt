pub mod ReadParts
mod LemmaCounts
mod Deciding
mod Asking
pub mod Exclusive
pub mod Lawful
