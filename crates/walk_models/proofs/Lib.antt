mod Along
mod Below
pub mod Done
pub mod Firsts
pub mod Free
mod Late
pub mod LateSteps
pub mod Lifted
pub mod Middle
pub mod Near
pub mod Nearness
pub mod Rare
mod Solved
pub mod Stricts
pub mod Told
mod WalkFits
mod Worlds
