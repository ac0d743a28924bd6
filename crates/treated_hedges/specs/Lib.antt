pub mod Excluded
