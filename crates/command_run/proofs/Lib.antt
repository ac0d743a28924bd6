pub mod Definitions
pub mod Answered
pub mod Deliveries
mod ReadCounts
mod NeverFails
mod OneCommand
pub mod OneRequest
pub mod OneAnswer
pub mod CompleteRuns
