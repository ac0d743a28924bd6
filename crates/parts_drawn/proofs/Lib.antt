pub mod Formulas
pub mod Accepted
