pub mod GraphLawful
mod SeparateSets
pub mod SeparateLawful
mod RuleSets
mod Equations
pub mod RuleLawful
