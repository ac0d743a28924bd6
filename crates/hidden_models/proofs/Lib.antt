mod ListLaws
mod Worlds
mod Masks
mod Reach
mod Written
mod OneEntry
mod Tabled
mod Compress
mod Compose
mod TooLarge
pub mod Depends
pub mod DigitLaws
pub mod Drawing
pub mod Drawn
pub mod Expanded
pub mod Fold
pub mod Folded
pub mod FoldingLaw
pub mod Folds
pub mod Positions
pub mod ReachingLaw
pub mod Renumber
pub mod Statements
pub mod Totals
pub mod Unfold
pub mod Unfolded
pub mod Unprojected
pub mod Values
