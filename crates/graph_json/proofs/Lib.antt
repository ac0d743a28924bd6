pub mod EdgeRows
