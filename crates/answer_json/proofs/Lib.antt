pub mod Arrays
mod Fitting
mod Lines
mod Texts
