pub mod Treated
pub mod Chain
pub mod Primes
pub mod Differences
pub mod NamedOnce
pub mod NoFormula
pub mod TwoValues
pub mod Vocabulary
