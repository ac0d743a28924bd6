-- Laws of the pairs that some set separates.
use Rattle.std.specs.Prelude.{ℕ, Bool, ◌↔◌}
use Rattle.mixed_graph.specs.Vocabulary.{MixedGraph, IsMixedGraph}
use Rattle.m_separation.specs.Vocabulary.{IsSeparated}
use Rattle.implications.specs.Separable.{only, IsSeparable, AreIndependentGivenSome, AreOtherAncestors}

-- where any set separates two vertices, their other ancestors do
abbrev pub OtherAncestorsSeparate : Type 0
OtherAncestorsSeparate = (g : MixedGraph) → IsMixedGraph g → (a b : ℕ) → IsSeparable g a b → (z : ℕ → Bool) → AreOtherAncestors g a b z
    → IsSeparated g (only a) (only b) z

-- some set separates two vertices exactly where they are independent given some set in each model that fits
abbrev pub SeparableIsIndependent : Type 0
SeparableIsIndependent = (g : MixedGraph) → IsMixedGraph g → (a b : ℕ) → IsSeparable g a b ↔ AreIndependentGivenSome g a b
