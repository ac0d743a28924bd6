pub mod Formulas
pub mod Exposures
pub mod Minimal
pub mod Lists
pub mod NameLists
pub mod Ranges
mod NoQueries
mod Faults
pub mod Exclusive
pub mod Lawful
