-- The criteria are separation in a graph with fewer arrows, and their formula is the effect.
use Rattle.std.specs.Prelude.{ℕ, ◌==◌, Bool, ◌↔◌}
use Rattle.mixed_graph.specs.Vocabulary.{has, MixedGraph, IsMixedGraph, IsDescendant, one}
use Rattle.m_separation.specs.Vocabulary.{IsSeparated}
use Rattle.do_rules.specs.Vocabulary.{cut_out, AreThreeSets}
use Rattle.adjustment.specs.Proper.{IsBackDoorGraph}
use Rattle.prob_expr.specs.Vocabulary.{EqualsEffect, FailsSomewhere, effect_on}
use Rattle.adjustment.specs.declared.criteria.AdjFault.{AdjFault}
use Rattle.adjustment.specs.Criteria.{IsForbidden, IsAdmissible, IsBackDoorSet}
use Rattle.adjustment.specs.Faults.{IsClearOf, IsAdjustmentFault}
use Rattle.adjustment.specs.Formulas.{adjustment_formula}

-- a set is admissible exactly where none of its members is forbidden and it separates x from y in the back-door graph
abbrev pub AdmissibleIsSeparating : Type 0
AdmissibleIsSeparating = (g h : MixedGraph) → IsMixedGraph g → (x y z : ℕ → Bool) → AreThreeSets g.vertices x y z → IsBackDoorGraph g x y h
    → IsAdmissible g x y z ↔ (IsClearOf (IsForbidden g x y) z × IsSeparated h x y z)

-- a set meets the back-door criterion exactly where no member is a descendant of x and it separates x from y in the graph without the arrows out of x
abbrev pub BackDoorIsSeparating : Type 0
BackDoorIsSeparating = (g : MixedGraph) → IsMixedGraph g → (x : ℕ) (y z : ℕ → Bool) → AreThreeSets g.vertices (λ u. u == x) y z
    → IsBackDoorSet g x y z ↔ (IsClearOf (IsDescendant g (λ u. u == x)) z × IsSeparated (cut_out g (λ u. u == x)) (λ u. u == x) y z)

-- in each positive model the formula of an admissible set is the effect
abbrev pub AdmissibleAdjusts : Type 0
AdmissibleAdjusts = (g : MixedGraph) → IsMixedGraph g → (x y z : ℕ) → AreThreeSets g.vertices (has x) (has y) (has z) → IsAdmissible g (has x) (has y) (has z)
    → EqualsEffect g (effect_on x y) (adjustment_formula x y z)

-- and so is that of a set with the back-door criterion
abbrev pub BackDoorAdjusts : Type 0
BackDoorAdjusts = (g : MixedGraph) → IsMixedGraph g → (x y z : ℕ) → AreThreeSets g.vertices (has (one x)) (has y) (has z) → IsBackDoorSet g x (has y) (has z)
    → EqualsEffect g (effect_on (one x) y) (adjustment_formula (one x) y z)

-- what breaks the criterion breaks the formula: in some positive model it isn't the effect
abbrev pub FaultsFail : Type 0
FaultsFail = (g : MixedGraph) → IsMixedGraph g → (x y z : ℕ) → AreThreeSets g.vertices (has x) (has y) (has z)
    → (f : AdjFault) → IsAdjustmentFault g (has x) (has y) (has z) f → FailsSomewhere g (effect_on x y) (adjustment_formula x y z)

-- so the formula is the effect in each positive model exactly for admissible sets
abbrev pub AdjustsExactly : Type 0
AdjustsExactly = (g : MixedGraph) → IsMixedGraph g → (x y z : ℕ) → AreThreeSets g.vertices (has x) (has y) (has z)
    → IsAdmissible g (has x) (has y) (has z) ↔ EqualsEffect g (effect_on x y) (adjustment_formula x y z)
