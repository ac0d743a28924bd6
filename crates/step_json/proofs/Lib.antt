pub mod Copying
pub mod Depths
pub mod Ends
