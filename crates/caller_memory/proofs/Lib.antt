pub mod Feeds
pub mod OneGraph
mod Drawing
