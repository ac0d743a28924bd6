mod Deriving
pub mod Checking
pub mod Lawful
