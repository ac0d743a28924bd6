pub mod Tables
pub mod CellLists
