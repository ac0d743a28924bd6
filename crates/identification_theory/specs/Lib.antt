pub mod Depth
pub mod Derivations
pub mod Laws
pub mod Procedure
pub mod AnswerDepth
pub mod AnswerLaws
pub mod Names
pub mod Vocabulary
