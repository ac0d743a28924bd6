pub mod Reaching
pub mod Shaping
pub mod Collecting
pub mod Levels
pub mod Parts
pub mod Trees
