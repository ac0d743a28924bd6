pub mod Instruments
pub mod Natural
pub mod Orders
pub mod Bounds
pub mod Drawn
pub mod Vocabulary
