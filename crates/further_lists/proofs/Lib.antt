pub mod NameFaults
pub mod WalkedNames
