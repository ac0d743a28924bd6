pub mod Targets
pub mod FaultTexts
pub mod Vocabulary
