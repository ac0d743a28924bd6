-- The testable implications of a graph (Pearl, Causality, section 1.2).
use Rattle.std.specs.Prelude.{ℕ, ◌≡◌, ◌<◌, List, ◌⊎◌, All}
use Rattle.std.specs.List.{AllPairs, Any}
use Rattle.mixed_graph.specs.Vocabulary.{has, MixedGraph}
use Rattle.implications.specs.declared.pairs.Implication.{Implication}
use Rattle.implications.specs.Separable.{IsSeparable, IsGivenSet}

-- a pair of vertices with the set that is given for it
pub record IsImplication (g : MixedGraph) (i : Implication) : Type 0 where
  pub order : i.a < i.b
  pub vertex : i.b < g.vertices
  pub given : IsGivenSet g i.a i.b (has i.given.bits)

-- the implication is that of a and b
abbrev pub IsOf : (a b : ℕ) → Implication → Type 0
IsOf a b i = (i.a ≡ a) × (i.b ≡ b)

-- the one pair is before the other: the lower vertices are compared first
abbrev pub IsBefore : Implication → Implication → Type 0
IsBefore i j = (i.a < j.a) ⊎ ((i.a ≡ j.a) × (i.b < j.b))

-- the list has exactly the pairs that some set separates, in order and so each once, and each with its set
pub record AreImplications (g : MixedGraph) (list : List Implication) : Type 0 where
  pub each : All (IsImplication g) list
  pub all : (a b : ℕ) → IsSeparable g a b → Any (IsOf a b) list
  pub sorted : AllPairs IsBefore list
