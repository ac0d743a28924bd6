-- What a criterion says of a set.
use Rattle.std.specs.Prelude.{ℕ, ◌≡◌, Bool, true, false}
use Rattle.mixed_graph.specs.Vocabulary.{has, MixedGraph, one}
use Rattle.prob_expr.specs.Vocabulary.{FailsSomewhere, EqualsEffect, effect_on}
use Rattle.adjustment.specs.Vocabulary.{IsAdmissible, IsBackDoorSet, IsAdjustmentFault, IsBackDoorFault, adjustment_formula}
use Rattle.adjust_command.specs.declared.criteria.Verdict.{Verdict}
use Rattle.adjust_command.specs.declared.criteria.Verdict.TheVariants.{Meets, Breaks, NotOne}

-- z meets the adjustment criterion, or the back-door criterion for the one exposure v, and its formula is the effect; or this breaks the criterion,
-- and the formula of what breaks the first isn't the effect in some positive model; or the exposures aren't one vertex
abbrev pub IsVerdict : (back_door : Bool) → MixedGraph → (x y z : ℕ) → Verdict → Type 0
IsVerdict false q x y z Meets = IsAdmissible q (has x) (has y) (has z) × EqualsEffect q (effect_on x y) (adjustment_formula x y z)
IsVerdict false q x y z (Breaks fault) = IsAdjustmentFault q (has x) (has y) (has z) fault × FailsSomewhere q (effect_on x y) (adjustment_formula x y z)
IsVerdict false q x y z NotOne = ⊥
IsVerdict true q x y z Meets = (v : ℕ) × (x ≡ one v) × IsBackDoorSet q v (has y) (has z) × EqualsEffect q (effect_on x y) (adjustment_formula x y z)
IsVerdict true q x y z (Breaks fault) = (v : ℕ) × (x ≡ one v) × IsBackDoorFault q v (has y) (has z) fault
IsVerdict true q x y z NotOne = (v : ℕ) → x ≡ one v → ⊥
