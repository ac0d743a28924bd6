-- What other crates cite of this one, from one place.
pub use Rattle.markov_equivalence.specs.Comparisons.{IsColliderDifference, IsEdgeDifference, IsShown}
pub use Rattle.markov_equivalence.specs.Separations.{HaveSameIndependences, HaveSameSeparations, IsOpenWithEndsOf}
pub use Rattle.markov_equivalence.specs.Sides.{other_side}
pub use Rattle.markov_equivalence.specs.Skeletons.{AreEquivalent, HasArrowsAlone}
