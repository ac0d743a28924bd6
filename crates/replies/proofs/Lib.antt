pub mod Results
pub mod PathsBelow
pub mod Outcomes
pub mod OneGraph
pub mod OneTarget
pub mod OneOutcome
pub mod Commands
