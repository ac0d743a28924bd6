pub mod Strata
pub mod Instruments
pub mod Vocabulary
