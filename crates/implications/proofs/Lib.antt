pub mod Cuts
pub mod LinkLaws
pub mod Listing
pub mod OpenLinks
pub mod OtherAncestors
pub mod Others
pub mod Thinning
