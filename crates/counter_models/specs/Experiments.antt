-- Which experiments don't tell the two models of a hedge apart.
use Rattle.std.specs.Prelude.{ℕ, ◌≤◌, ◌⊎◌, IsTrue}
use Rattle.mixed_graph.specs.Vocabulary.{has, Apart, MixedGraph, IsMixedGraph}
use Rattle.finite_models.specs.Vocabulary.{meaning, AgreeUnder}
use Rattle.hedge.specs.declared.hedge.Hedge.{Hedge}
use Rattle.hedge.specs.Vocabulary.{IsHedge}
use Rattle.counter_models.specs.Pairs.{IsPairOf}
use Rattle.counter_models.specs.declared.counter_pair.CounterPair.{CounterPair}

-- an experiment on z leaves big alone, or sets a member of small
abbrev pub IsHarmlessTo : Hedge → ℕ → Type 0
IsHarmlessTo h z = Apart (has h.big.bits) (has z) ⊎ ((r : ℕ) × IsTrue (has h.small.bits r) × IsTrue (has z r))

-- under such an experiment the two models of a hedge give each assignment the same probability
abbrev pub PairsAgreeUnder : Type 0
PairsAgreeUnder = (g : MixedGraph) → IsMixedGraph g → g.vertices ≤ 64 → (x y : ℕ) (h : Hedge) → IsHedge g x y h → Apart (has x) (has y)
    → (pair : CounterPair) → IsPairOf g x y h pair → (z : ℕ) → IsHarmlessTo h z → AgreeUnder (has z) (meaning g pair.first) (meaning g pair.second)
