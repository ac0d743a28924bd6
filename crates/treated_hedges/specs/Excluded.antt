-- Two models of a hedge for the joint effect on y and z show that the effect among the treated has no formula.
use Rattle.std.specs.Prelude.{ℕ}
use Rattle.mixed_graph.specs.Vocabulary.{has, MixedGraph, IsMixedGraph, IsAncestor, union}
use Rattle.hedge.specs.Vocabulary.{IsSetOf}
use Rattle.counter_models.specs.declared.counter_pair.CounterPair.{CounterPair}
use Rattle.counter_models.specs.Vocabulary.{AreCounterModels}
use Rattle.treated_models.specs.Vocabulary.{HasNoFormulaAmong}
use Rattle.treated_id.specs.Vocabulary.{IsTreatedTarget}

-- where two models show that P(y, z | do(x)) isn't identifiable, no formula equals P(y under do(x) | x and z as observed); c holds the ancestors of x and z
abbrev pub CounterModelsExcludeAmong : Type 0
CounterModelsExcludeAmong = (g : MixedGraph) → IsMixedGraph g → (x y z : ℕ) → IsTreatedTarget g x y z
    → (c : ℕ) → IsSetOf c (IsAncestor g (has (union x z))) → (pair : CounterPair) → AreCounterModels g x (union y z) pair → HasNoFormulaAmong g x y z
