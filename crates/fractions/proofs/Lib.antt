pub mod FractionLaws
mod Worked
