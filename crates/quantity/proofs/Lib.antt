pub mod ExactSteps
pub mod LcmLaws
pub mod TextSteps
mod Worked
