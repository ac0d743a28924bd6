pub mod Lists
pub mod Lawful
pub mod OneText
mod Shallow
mod Replied
