-- That two models show an effect not to be identifiable: they agree on observations, and differ under the intervention.
use Rattle.std.specs.Prelude.{◌≡◌, ℕ, ◌+◌, ◌*◌, ◌%◌, ◌^◌, ◌==◌, ◌≤◌, if◌then◌else◌, slice_index}
use Rattle.mixed_graph.specs.Vocabulary.{has, Apart, MixedGraph, IsMixedGraph}
use Rattle.finite_models.specs.declared.model.Model.{Model}
use Rattle.finite_models.specs.Vocabulary.{sum_below, Fits, IsAssignment, IsPositiveModel, sum_worlds, world_weight, solution, intervene, total, meaning, carried_bit, IsSoundModel, AgreeObserved, ServesTwo}
use Rattle.counter_models.specs.ParityLaws.{DifferAt, DifferAtEach}
use Rattle.hedge.specs.declared.hedge.Hedge.{Hedge}
use Rattle.hedge.specs.Vocabulary.{IsHedge}
use Rattle.counter_models.specs.Pairs.{IsPairOf}
use Rattle.counter_models.specs.declared.counter_pair.CounterPair.{CounterPair}

-- the sum of the carried bits of the event's members, where the vertices have the values s
abbrev pub carried_sum : MixedGraph → Model → (event : ℕ) → (ℕ → ℕ) → ℕ
carried_sum g m event s = sum_below g.vertices (λ v. if has event v then carried_bit m.mechanisms.items v (s v) else 0)

-- the weight of the worlds whose solution under do(x) at a has an even sum of the carried bits of the event's members
abbrev pub even_weight : MixedGraph → Model → (x event : ℕ) → (ℕ → ℕ) → ℕ
even_weight g m x event a = sum_worlds (meaning g m)
    (λ u. if carried_sum g m event (solution (intervene (meaning g m) (has x) a) u) % 2 == 0 then world_weight (meaning g m) u else 0)

-- the model is accepted by the check of models, fits the graph and is positive
pub record IsProperModel (g : MixedGraph) (m : Model) : Type 0 where
  pub sound : IsSoundModel g m
  pub fits : Fits g (meaning g m)
  pub positive : IsPositiveModel (meaning g m)

-- both are proper models of the graph that agree on all observations; at every value of x the event has under do(x) the probability 1 / 2 in the
-- first and 1 / 2 + 1 / 2 ^ (noise + 1) in the second; so the effects of x on y differ, under every value of x; each cause of either serves two
-- vertices at most
pub record AreCounterModels (g : MixedGraph) (x y : ℕ) (pair : CounterPair) : Type 0 where
  pub first : IsProperModel g pair.first
  pub second : IsProperModel g pair.second
  pub observed : AgreeObserved (meaning g pair.first) (meaning g pair.second)
  pub half : (a : ℕ → ℕ) → IsAssignment g.vertices (λ v. slice_index pair.first.sizes.items v) a
      → 2 * even_weight g pair.first x pair.event.bits a ≡ total (meaning g pair.first)
  pub more : (a : ℕ → ℕ) → IsAssignment g.vertices (λ v. slice_index pair.second.sizes.items v) a
      → 2 ^ (pair.noise + 1) * even_weight g pair.second x pair.event.bits a ≡ (2 ^ pair.noise + 1) * total (meaning g pair.second)
  pub effects : DifferAt (meaning g pair.first) (meaning g pair.second) (has x) (has y)
  pub each : DifferAtEach (meaning g pair.first) (meaning g pair.second) (has x) (has y)
  pub two : ServesTwo (meaning g pair.first) × ServesTwo (meaning g pair.second)

-- the two models of a hedge show that the effect isn't identifiable
abbrev pub PairsAreCounterModels : Type 0
PairsAreCounterModels = (g : MixedGraph) → IsMixedGraph g → g.vertices ≤ 64 → (x y : ℕ) (h : Hedge) → IsHedge g x y h → Apart (has x) (has y)
    → (pair : CounterPair) → IsPairOf g x y h pair → AreCounterModels g x y pair

-- each hedge has two such models, whether or not anybody builds them
abbrev pub HedgesHavePairs : Type 0
HedgesHavePairs = (g : MixedGraph) → IsMixedGraph g → g.vertices ≤ 64 → (x y : ℕ) (h : Hedge) → IsHedge g x y h → (pair : CounterPair) × IsPairOf g x y h pair
