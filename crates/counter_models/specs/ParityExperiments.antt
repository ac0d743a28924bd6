-- When the two models of a hedge's data can't be told apart under an intervention either.
use Rattle.std.specs.Prelude.{ℕ, ◌≡◌, ◌⊎◌, Bool, true, false}
use Rattle.mixed_graph.specs.Vocabulary.{MixedGraph, IsMixedGraph}
use Rattle.finite_models.specs.Vocabulary.{AgreeUnder}
use Rattle.counter_models.specs.Hedges.{ParityHedge, IsWholeHedge}
use Rattle.counter_models.specs.ParityPairs.{first_model, second_model}

-- z leaves big alone, or sets some member of small
abbrev pub IsHarmless : ParityHedge → (ℕ → Bool) → Type 0
IsHarmless d z = ((v : ℕ) → d.big v ≡ true → z v ≡ false) ⊎ ((r : ℕ) × (d.small r ≡ true) × (z r ≡ true))

-- then both models give each assignment the same probability under it
abbrev pub ExperimentsAgree : Type 0
ExperimentsAgree = (g : MixedGraph) → IsMixedGraph g → (x : ℕ → Bool) (d : ParityHedge) → IsWholeHedge g x d → (z : ℕ → Bool) → IsHarmless d z
    → AgreeUnder z (first_model g.vertices d) (second_model g.vertices d)
