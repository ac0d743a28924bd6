pub mod Found
pub mod OneHedge
pub mod AlikePairs
pub mod HedgeTexts
pub mod HedgeObjects
pub mod HedgeViews
pub mod OneNo
pub mod Shallow
pub mod Within
pub mod Writing
mod Keeping
pub mod ReadBack
pub mod Telling
