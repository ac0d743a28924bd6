pub mod Faults
pub mod FaultTexts
pub mod HedgeReading
pub mod Plain
pub mod Reading
pub mod PartReading
pub mod Vocabulary
