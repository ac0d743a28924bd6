pub mod Both
pub mod Among
pub mod Differing
pub mod Unfolding
