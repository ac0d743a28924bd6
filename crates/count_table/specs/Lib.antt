pub mod Cells
pub mod Codes
pub mod Tables
pub mod Reading
pub mod LaneSums
pub mod Axes
pub mod Sums
pub mod Vocabulary
