pub mod CallEnds
mod Contents
mod Counts
mod Endings
mod Telling
mod Calling
