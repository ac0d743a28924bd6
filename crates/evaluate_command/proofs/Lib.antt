pub mod Mentions
pub mod Columns
pub mod CellLists
pub mod Members
pub mod Printed
pub mod Stops
pub mod Evaluable
mod NoWays
mod RightFormulas
mod Counted
mod OneBreak
pub mod Unmet
pub mod Adjusted
pub mod OneEffect
pub mod Exclusive
pub mod Lawful
mod Replied
pub mod OneText
