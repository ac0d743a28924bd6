pub mod Answers
pub mod HedgeLines
pub mod ModelLines
pub mod PairLines
pub mod Vocabulary
