pub mod Answers
pub mod Gathered
pub mod Tries
pub mod Common
pub mod ExperimentLaws
pub mod Surrogates
pub mod Vocabulary
