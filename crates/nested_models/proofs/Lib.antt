pub mod Apart
pub mod Worlds
pub mod Held
pub mod Effects
pub mod Product
pub mod Witnesses
pub mod NoFormula
pub mod Leading
