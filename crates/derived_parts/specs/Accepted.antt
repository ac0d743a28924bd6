-- When parts are accepted for districts, and the first fault otherwise.
use Rattle.std.specs.Prelude.{ℕ, ◌+◌, ◌≡◌, ◌≢◌, ◌⊎◌, Bool, not, ◌&&◌, List, [], ◌∷◌}
use Rattle.mixed_graph.specs.Vocabulary.{MixedGraph, minus, all, is_below, is_empty}
use Rattle.prob_expr.specs.Vocabulary.{PlainTarget, effect_on}
use Rattle.do_derivation.specs.Accepts.{Accepts}
use Rattle.do_derivation.specs.Vocabulary.{AcceptsNot}
use Rattle.do_derivation.specs.declared.faults.CheckFault.{CheckFault}
use Rattle.do_derivation.specs.declared.faults.CheckFault.TheVariants as checks
use Rattle.derived_parts.specs.Parts.{PlainDerivedPart}
use Rattle.derived_parts.specs.declared.fault.PartsFault.{PartsFault}
use Rattle.derived_parts.specs.declared.fault.PartsFault.TheVariants.{Missing, Further, District, Derivation, NoMemory}

-- the set is below n and not empty
abbrev pub is_set : ℕ → ℕ → Bool
is_set n c = is_below n c && not (is_empty c)

-- P(district | do(all other vertices))
abbrev pub district_target : MixedGraph → ℕ → PlainTarget
district_target g c = effect_on (minus (all g.vertices) c) c

-- the part is that of the district, and its derivation is accepted for its formula, whose terms are observed, as P(district | do(all other vertices))
pub record IsAcceptedPart (g : MixedGraph) (c : ℕ) (p : PlainDerivedPart) : Type 0 where
  pub district : p.district ≡ c
  pub accepted : Accepts g [] (district_target g c) p.formula p.derivation

-- so are the parts, one for each of the districts, in their order
abbrev pub AreAccepted : MixedGraph → List ℕ → List PlainDerivedPart → Type 0
AreAccepted g [] [] = Unit {0}
AreAccepted g [] (p ∷ ps) = ⊥
AreAccepted g (c ∷ cs) [] = ⊥
AreAccepted g (c ∷ cs) (p ∷ ps) = IsAcceptedPart g c p × AreAccepted g cs ps

-- the fault of part k: it isn't that of the district that is due, or its derivation has a first fault
abbrev pub IsPartFault : MixedGraph → (k c : ℕ) → PlainDerivedPart → PartsFault → Type 0
IsPartFault g k c p fault =
    ((p.district ≢ c) × (fault ≡ District k (record { bits = c })))
    ⊎ ((p.district ≡ c) × ((why : CheckFault) × AcceptsNot g [] (district_target g c) p.formula p.derivation why × (fault ≡ Derivation k why)))

-- the first fault of the parts from number k on, where these districts are left
abbrev pub IsPartsFault : MixedGraph → (k : ℕ) → List ℕ → List PlainDerivedPart → PartsFault → Type 0
IsPartsFault g k [] [] fault = ⊥
IsPartsFault g k [] (p ∷ ps) fault = fault ≡ Further k
IsPartsFault g k (c ∷ cs) [] fault = fault ≡ Missing k (record { bits = c })
IsPartsFault g k (c ∷ cs) (p ∷ ps) fault = IsPartFault g k c p fault ⊎ (IsAcceptedPart g c p × IsPartsFault g (k + 1) cs ps fault)

-- the fact holds, unless memory was refused
abbrev pub UnlessMemory : PartsFault → Type 0 → Type 0
UnlessMemory (Missing k c) P = P
UnlessMemory (Further k) P = P
UnlessMemory (District k c) P = P
UnlessMemory (Derivation k why) P = P
UnlessMemory NoMemory P = Unit {0}

-- the fault of the parts where the derivation of part k has this one
abbrev pub fault_at : ℕ → CheckFault → PartsFault
fault_at k (checks.Step place fault) = Derivation k (checks.Step place fault)
fault_at k (checks.EndDiffers n) = Derivation k (checks.EndDiffers n)
fault_at k checks.DoLeft = Derivation k checks.DoLeft
fault_at k checks.NoMemory = NoMemory
