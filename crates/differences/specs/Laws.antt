-- The proofs of the laws that the two kinds of quantity carry. They stand here since the law of a trait takes its proof from specs/.
pub mod Taken
pub mod Interval
pub mod Exact
