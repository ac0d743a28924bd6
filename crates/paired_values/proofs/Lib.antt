pub mod Levels
mod AxisLists
pub mod NameCells
pub mod CellLists
pub mod Walks
mod Printed
mod Walked
pub mod Counted
pub mod OneTable
pub mod ValuedCells
pub mod NameModels
