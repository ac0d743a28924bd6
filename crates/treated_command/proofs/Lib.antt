mod Pieces
pub mod Replying
pub mod Sets
pub mod Lawful
