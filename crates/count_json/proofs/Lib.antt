pub mod SameStops
pub mod Refused
