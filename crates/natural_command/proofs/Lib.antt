mod Pairs
pub mod Naming
mod Pieces
mod Places
pub mod Replying
pub mod Ways
pub mod Lawful
