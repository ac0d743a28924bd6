pub mod Lawful
pub mod CallAnswers
mod AsDrawn
mod DrawnCounts
mod DrawnAmong
mod DrawnNested
mod Refused
mod LongCounts
mod DrawnBounds
mod NaturalDrawn
mod ToldAnswers
pub mod DrawnRuns
pub mod Headlines
mod OneFault
mod Readable
mod Texts
mod TwoModels
