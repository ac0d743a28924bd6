mod Terms
pub mod Known
pub mod Evaluable
mod Covered
mod Pieces
mod Replied
mod OneFormula
mod OneEffect
pub mod Exclusive
pub mod Lawful
