pub mod Alike
pub mod Allowed
pub mod Boxes
pub mod Checked
pub mod Excluded
pub mod FreeLaws
mod FreeSteps
mod Mentions
pub mod Observed
mod SameTrees
pub mod ValueLaws
pub mod Views
mod Walks
