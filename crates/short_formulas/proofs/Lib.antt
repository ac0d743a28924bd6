mod Counting
mod Deeper
mod Levels
mod NamesOnly
pub mod Usable
