-- Two models that show an effect not to be identifiable exclude each formula for it.
use Rattle.std.proofs.Common.{ℕ}
use Rattle.mixed_graph.specs.Vocabulary.{MixedGraph, IsMixedGraph}
use Rattle.finite_models.specs.Vocabulary.{meaning}
use Rattle.prob_expr.specs.Vocabulary.{DifferOnTarget, HasNoFormula}
use Rattle.prob_expr.proofs.Excluded.{unequal_weights, difference_excludes_formula}
use Rattle.counter_models.specs.Events.{AreCounterModels}
use Rattle.counter_models.specs.declared.counter_pair.CounterPair.{CounterPair}

module _ (g : MixedGraph) (ok : IsMixedGraph g) (x y : ℕ) (pair : CounterPair) (models : AreCounterModels g x y pair) where
  -- the effect has two values in them, under every value of x
  pub differ_on : DifferOnTarget (meaning g pair.first) (meaning g pair.second) (record { x = x; y = y; given = 0 })
  differ_on a within =
      let d = models.each a within in (
        record { at = d.0.at; within = d.0.within; unequal = unequal_weights (meaning g pair.first) (meaning g pair.second) x y d.0.at d.0.unequal },
        d.1,
      )

  -- so no formula without interventions equals it
  pub no_formula : HasNoFormula g (record { x = x; y = y; given = 0 })
  no_formula =
      difference_excludes_formula g ok (meaning g pair.first) (meaning g pair.second)
      models.first.fits models.second.fits models.first.positive models.second.positive
      models.observed (record { x = x; y = y; given = 0 }) differ_on
