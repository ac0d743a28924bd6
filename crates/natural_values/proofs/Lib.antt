mod Equal
mod Uniting
pub mod Covering
