-- Minimal sets of strata of a conditional instrument (Pearl, Causality, chapter 7; van der Zander, Textor and Liskiewicz, 2015).
use Rattle.std.specs.Prelude.{ℕ, Bool}
use Rattle.mixed_graph.specs.Vocabulary.{MixedGraph}
use Rattle.minimal_sets.specs.Vocabulary.{IsPart}
use Rattle.natural_bounds.specs.Vocabulary.{IsInstrument}

-- z is an instrument for the effect of x on y in the strata of w, and in those of no proper part of w
pub record AreMinimalStrata (g : MixedGraph) (x y z w : ℕ → Bool) : Type 0 where
  pub instrument : IsInstrument g x y z w
  pub minimal : (p : ℕ → Bool) → IsPart p w → IsInstrument g x y z p → IsPart w p
