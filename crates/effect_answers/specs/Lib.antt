pub mod Objects
pub mod Certificates
pub mod FormulaTelling
pub mod HedgeTelling
pub mod Hedges
pub mod Right
pub mod Vocabulary
