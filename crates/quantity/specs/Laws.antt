-- The proofs of the laws that the two kinds of quantity carry. They stand here since the law of a trait takes its proof from specs/.
pub mod Gcd
pub mod Rounding
pub mod Interval
pub mod Exact
