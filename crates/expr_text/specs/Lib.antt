pub mod Bytes
pub mod Grammar
pub mod Laws
pub mod Read
pub mod Sound
pub mod Text
pub mod Write
pub mod Vocabulary
