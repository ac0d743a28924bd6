pub mod Comparisons
pub mod Firsts
pub mod Laters
pub mod Skeletons
pub mod Sides
pub mod Separations
pub mod Vocabulary
