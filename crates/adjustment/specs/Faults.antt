-- What breaks the criteria: a forbidden member, or an open path.
use Rattle.std.specs.Prelude.{ℕ, ◌-◌, ◌≤◌, ◌==◌, Bool, List, IsTrue, slice_index}
use Rattle.mixed_graph.specs.Vocabulary.{MixedGraph, IsDescendant}
use Rattle.m_separation.specs.declared.paths.OpenPath.{OpenPath}
use Rattle.m_separation.specs.Vocabulary.{IsOpenPath, steps_from, Step}
use Rattle.adjustment.specs.Proper.{IsProperPath, IsCausal}
use Rattle.adjustment.specs.declared.criteria.AdjFault.{AdjFault}
use Rattle.adjustment.specs.declared.criteria.AdjFault.TheVariants.{Forbidden, Unblocked}
use Rattle.adjustment.specs.Criteria.{IsForbidden, BeginsInto}

-- v is the lowest member of z of which P holds
pub record IsLowestIn (P : ℕ → Type 0) (z : ℕ → Bool) (v : ℕ) : Type 0 where
  pub member : IsTrue (z v)
  pub holds : P v
  pub lowest : (u : ℕ) → IsTrue (z u) → P u → v ≤ u

-- P holds of no member of z
abbrev pub IsClearOf : (ℕ → Type 0) → (ℕ → Bool) → Type 0
IsClearOf P z = (v : ℕ) → IsTrue (z v) → P v → ⊥

-- the steps of a path, from its first vertex
abbrev pub steps_of : OpenPath → List Step
steps_of p = steps_from p.vertices p.marks 0 (p.count - 1)

-- a proper path from x to y that isn't causal and is open given z
pub record IsUnblockedPath (g : MixedGraph) (x y z : ℕ → Bool) (p : OpenPath) : Type 0 where
  pub open_path : IsOpenPath g x y z p.vertices p.marks p.count
  pub proper : IsProperPath g x y (slice_index p.vertices 0) (steps_of p)
  pub not_causal : IsCausal (steps_of p) → ⊥

-- a path from x to y that begins with an arrowhead at x and is open given z
pub record IsBackDoorPath (g : MixedGraph) (x : ℕ) (y z : ℕ → Bool) (p : OpenPath) : Type 0 where
  pub open_path : IsOpenPath g (λ u. u == x) y z p.vertices p.marks p.count
  pub begins : BeginsInto (steps_of p)

-- what breaks the adjustment criterion: the lowest forbidden member, or where none is forbidden, such a path
abbrev pub IsAdjustmentFault : MixedGraph → (x y z : ℕ → Bool) → AdjFault → Type 0
IsAdjustmentFault g x y z (Forbidden v) = IsLowestIn (IsForbidden g x y) z v
IsAdjustmentFault g x y z (Unblocked p) = IsClearOf (IsForbidden g x y) z × IsUnblockedPath g x y z p

-- what breaks the back-door criterion: the lowest member that is a descendant of x, or where none is, such a path
abbrev pub IsBackDoorFault : MixedGraph → (x : ℕ) → (y z : ℕ → Bool) → AdjFault → Type 0
IsBackDoorFault g x y z (Forbidden v) = IsLowestIn (IsDescendant g (λ u. u == x)) z v
IsBackDoorFault g x y z (Unblocked p) = IsClearOf (IsDescendant g (λ u. u == x)) z × IsBackDoorPath g x y z p
