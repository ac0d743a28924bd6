-- The natural bounds of an effect (Robins 1989; Manski 1990) at a level of an instrument: one inequality a world, summed over the worlds.
use Rattle.std.specs.Prelude.{ℕ, ◌+◌, ◌*◌, ◌≤◌, Bool, false, ◌||◌}
use Rattle.mixed_graph.specs.Vocabulary.{MixedGraph, IsMixedGraph}
use Rattle.finite_models.specs.Vocabulary.{FiniteModel, Fits, IsAssignment, weight_of}
use Rattle.natural_bounds.specs.Instruments.{IsInstrument}

-- no vertex
abbrev pub nothing : ℕ → Bool
nothing v = false

-- P(x, y | z, w) P(w) is at most P(y, w | do(x)), as numbers: in every model that fits, positive or not
abbrev pub NaturalLower : Type 0
NaturalLower = (g : MixedGraph) → IsMixedGraph g → (x y z w : ℕ → Bool) → IsInstrument g x y z w → (m : FiniteModel) → Fits g m → (s : ℕ → ℕ)
    → IsAssignment m.vertices m.size s
    → weight_of m nothing (λ v. x v || (y v || (z v || w v))) s * weight_of m nothing w s
    ≤ weight_of m x (λ v. y v || w v) s * weight_of m nothing (λ v. z v || w v) s

-- and P(y, w | do(x)) is at most (P(x, y | z, w) + 1 - P(x | z, w)) P(w)
abbrev pub NaturalUpper : Type 0
NaturalUpper = (g : MixedGraph) → IsMixedGraph g → (x y z w : ℕ → Bool) → IsInstrument g x y z w → (m : FiniteModel) → Fits g m → (s : ℕ → ℕ)
    → IsAssignment m.vertices m.size s
    → weight_of m x (λ v. y v || w v) s * weight_of m nothing (λ v. z v || w v) s
    + weight_of m nothing (λ v. x v || (z v || w v)) s * weight_of m nothing w s
    ≤ weight_of m nothing (λ v. x v || (y v || (z v || w v))) s * weight_of m nothing w s
    + weight_of m nothing (λ v. z v || w v) s * weight_of m nothing w s
