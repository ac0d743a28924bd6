pub mod Found
pub mod Lists
pub mod Moving
pub mod RightAnswers
pub mod StepCases
pub mod Answered
pub mod DividingLaw
pub mod Settling
pub mod TurningLaw
pub mod TurnedModels
mod Excluding
pub mod Given
pub mod Grown
mod MaskedFits
mod MaskedWeights
mod MaskedWorlds
pub mod Models
mod Odds
mod Opened
mod Pairs
mod ParityLeaves
mod Served
mod Summed
