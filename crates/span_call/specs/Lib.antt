pub mod Called
pub mod Ends
pub mod Rooms
pub mod Wanted
pub mod Keeping
pub mod Vocabulary
