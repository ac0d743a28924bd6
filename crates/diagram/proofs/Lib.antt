pub mod OneObserved
pub mod ObservedParts
pub mod Defaults
pub mod OneDiagram
pub mod Lent
pub mod Asking
