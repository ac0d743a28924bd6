-- What `apply` and `check` answer where they don't succeed. Want of memory may come at any time.
use Rattle.std.specs.Prelude.{ℕ, ◌≡◌, ◌⊎◌, List, Option}
use Rattle.mixed_graph.specs.Vocabulary.{MixedGraph}
use Rattle.prob_expr.specs.Tree.{Tree}
use Rattle.do_derivation.specs.Plans.{Plan}
use Rattle.do_derivation.specs.Steps.{Makes, Refuses}
use Rattle.do_derivation.specs.declared.faults.StepFault.{StepFault}
use Rattle.do_derivation.specs.declared.faults.ApplyFault.{ApplyFault}
use Rattle.do_derivation.specs.declared.faults.ApplyFault.TheVariants as applying
use Rattle.do_derivation.specs.declared.faults.CheckFault.{CheckFault}
use Rattle.do_derivation.specs.declared.faults.CheckFault.TheVariants.{Step, EndDiffers, DoLeft, NoMemory}

-- the step is refused on e at that number by that fault
abbrev pub IsApplyFault : MixedGraph → List ℕ → Plan → Tree → ApplyFault → Type 0
IsApplyFault g lemmas p e (applying.Step number fault) = Refuses g lemmas p e 0 number fault
IsApplyFault g lemmas p e applying.NoMemory = Unit {0}

-- the fact holds, unless memory was refused
abbrev pub UnlessNoMemory : CheckFault → Type 0 → Type 0
UnlessNoMemory (Step place fault) P = P
UnlessNoMemory (EndDiffers k) P = P
UnlessNoMemory DoLeft P = P
UnlessNoMemory NoMemory P = Unit {0}

-- the step is refused on e, or makes something else than d
abbrev pub StopsAtStep : MixedGraph → List ℕ → Plan → (e d : Tree) → (lemma : Option ℕ) (end : ℕ) → CheckFault → Type 0
StopsAtStep g lemmas p e d lemma end fault =
    ((number : ℕ) × (why : StepFault) × Refuses g lemmas p e 0 number why × (fault ≡ Step (record { lemma = lemma; number = number }) why))
    ⊎ ((x : Tree) × Makes g lemmas p e x × (x ≡ d → ⊥) × (fault ≡ EndDiffers end))
