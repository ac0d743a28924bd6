mod Isolated
mod Separating
mod Listing
pub mod Turns
