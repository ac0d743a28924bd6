pub mod MinusLaws
mod Quotients
mod SubtractionSteps
mod Worked
