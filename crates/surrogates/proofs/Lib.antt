mod Assembled
mod GatheredWith
mod Passing
pub mod RightAnswers
mod Together
mod Trying
pub mod Accepted
pub mod Answered
pub mod Around
pub mod Blocked
pub mod Formed
pub mod Induced
pub mod PlainFirst
pub mod Rooms
pub mod Shallow
pub mod Unique
