pub mod Walks
pub mod Separating
pub mod PathParts
pub mod Held
pub mod Effects
mod Observed
mod SingleTerms
pub mod Exceeding
pub mod FaultWalks
pub mod Causal
pub mod FirstEdges
