pub mod Interventional
pub mod Answers
pub mod Drawn
pub mod Laws
pub mod Vocabulary
