pub mod Asked
pub mod Placing
pub mod Queries
pub mod Exclusive
pub mod Lawful
