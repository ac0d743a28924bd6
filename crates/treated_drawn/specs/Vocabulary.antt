-- What other crates cite of this one, from one place.
pub use Rattle.treated_drawn.specs.Drawn.{EqualsAmongAsDrawn, FoldsBoth, IsLostAmongAsDrawn, IsUnfixedAmongAsDrawn, drawn_both, drawn_with_primes, observed_count}
pub use Rattle.treated_drawn.specs.Laws.{IsAsked}
