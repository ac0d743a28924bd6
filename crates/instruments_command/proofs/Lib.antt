mod Sets
pub mod NoStrata
pub mod Lawful
