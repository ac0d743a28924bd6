-- What is true of accepted parts in the diagram as drawn.
use Rattle.std.specs.Prelude.{ℕ, Bool, List}
use Rattle.mixed_graph.specs.Vocabulary.{MixedGraph, IsMixedGraph}
use Rattle.latent_projection.specs.Vocabulary.{IsObserved}
use Rattle.treated_id.specs.Vocabulary.{IsConfounded, IsTreatedTarget}
use Rattle.treated_parts.specs.Vocabulary.{EqualsAmongParts}
use Rattle.natural_id.specs.Vocabulary.{IsNaturalTarget, PlainPart, ReadsBoth}
use Rattle.derived_parts.specs.Vocabulary.{PlainDerivedPart}
use Rattle.part_checks.specs.Vocabulary.{AreAcceptedAmong, AreNaturallyAccepted}
use Rattle.parts_drawn.specs.Drawn.{EqualsAmongPartsAsDrawn, MakeUpAmongAsDrawn, MakeUpNestedAsDrawn}

-- a formula of parts that equals an effect among the treated in every positive model of the observed graph q equals it in the diagram as drawn
abbrev pub TreatedPartsAreDrawn : Type 0
TreatedPartsAreDrawn = (g : MixedGraph) → IsMixedGraph g → (l : ℕ → Bool) (q : MixedGraph) → IsObserved g l q → (x y z summed : ℕ) (ps : List PlainPart)
    → EqualsAmongParts q x y z summed ps → EqualsAmongPartsAsDrawn g l x y z summed ps

-- where no treatment is confounded with a child of its own, accepted parts make up the effect among the treated
abbrev pub AcceptedAmongMakeUp : Type 0
AcceptedAmongMakeUp = (g : MixedGraph) → IsMixedGraph g → (l : ℕ → Bool) (q : MixedGraph) → IsObserved g l q → (x y z : ℕ) → IsTreatedTarget q x y z
    → (IsConfounded q x y z → ⊥) → (ps : List PlainDerivedPart) → AreAcceptedAmong q x y z ps → MakeUpAmongAsDrawn g l q x y z ps

-- where no vertex and no district reads both values of a treatment, accepted parts make up the nested effect
abbrev pub AcceptedNestedMakeUp : Type 0
AcceptedNestedMakeUp = (g : MixedGraph) → IsMixedGraph g → (l : ℕ → Bool) (q : MixedGraph) → IsObserved g l q → (x m y z : ℕ) → IsNaturalTarget q x m y z
    → (ReadsBoth q x m y z → ⊥) → (ps : List PlainDerivedPart) → AreNaturallyAccepted q x y z ps → MakeUpNestedAsDrawn g l q x m y z ps
