pub mod Reading
pub mod Natural
pub mod Treated
pub mod Making
pub mod Vocabulary
