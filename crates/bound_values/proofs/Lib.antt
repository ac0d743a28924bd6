mod Pairing
mod Exactly
mod TwoValued
mod Outcomes
mod Dividing
mod Quotients
pub mod Sums
mod Boxes
pub mod Covered
pub mod CellLists
pub mod Finding
pub mod Ends
pub mod Used
mod Along
mod Parts
