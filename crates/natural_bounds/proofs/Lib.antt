mod Before
mod Worlds
pub mod Strata
pub mod Effects
pub mod Summed
pub mod Drawn
pub mod Natural
pub mod Orders
