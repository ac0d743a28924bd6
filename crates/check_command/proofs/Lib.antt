pub mod Harmless
pub mod ReadFormulas
pub mod ReadTargets
pub mod Using
mod Deciding
pub mod Replied
mod OneHedge
pub mod Exclusive
pub mod Lawful
