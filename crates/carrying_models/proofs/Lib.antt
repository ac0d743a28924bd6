mod Channels
mod Core
mod Reading
mod Pair
mod Witness
mod Walk
mod Split
pub mod Differing
