mod Worlds
mod Filled
mod Kept
pub mod Folding
mod Shared
pub mod Carried
pub mod Matched
pub mod Formulas
pub mod Lost
pub mod Differing
pub mod Nil
