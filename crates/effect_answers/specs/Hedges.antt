-- The hedge that answers no.
use Rattle.std.specs.Prelude.{ℕ, ◌≡◌, length}
use Rattle.mixed_graph.specs.Vocabulary.{MixedGraph}
use Rattle.hedge.specs.declared.hedge.Hedge.{Hedge}
use Rattle.hedge.specs.Vocabulary.{HasEntries, IsHedge}
use Rattle.counter_models.specs.declared.counter_pair.CounterPair.{CounterPair}
use Rattle.counter_models.specs.Vocabulary.{IsPairOf}
use Rattle.identification_theory.specs.Vocabulary.{IsUnidentified}
use Rattle.identify.specs.Vocabulary.{IsRightHedge, IsHedgeOf}

-- Its sets form a hedge for the effect of x on y, and its two models, which are positive and fit q, agree on all observations and differ on the
-- effect under every value of x.
-- Its choice of children and its links are the evidence. It is the hedge at which the identification procedure stops, with its data and its models.
pub record IsFoundHedge (q : MixedGraph) (x y : ℕ) (hedge : Hedge) (pair : CounterPair) : Type 0 where
  pub right : IsRightHedge q x y hedge pair
  pub evidence : IsHedge q x y hedge
  pub stop : IsUnidentified q x y hedge.small.bits hedge.big.bits
  pub built : IsHedgeOf q hedge
  pub models : IsPairOf q x y hedge pair

-- its choice is an array of 64 entries, and its links are two
pub record HasArrays (h : Hedge) : Type 0 where
  pub choice : length h.choice.next ≡ 64
  pub links : HasEntries h
