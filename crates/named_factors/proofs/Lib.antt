mod Naming
mod Seeing
pub mod Shaping
mod Listing
pub mod Among
