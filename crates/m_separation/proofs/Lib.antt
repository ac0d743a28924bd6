pub mod Going
pub mod Splices
pub mod OpenPaths
pub mod Searches
pub mod Nexts
pub mod Levels
pub mod Nearest
pub mod Traces
