-- The adjustment formula of a set that meets a criterion.
use Rattle.std.proofs.Common.{◌≡◌, ℕ, Bool, true, false, cond, [], refl}
use Rattle.mixed_graph.specs.Vocabulary.{MixedGraph, is_empty}
use Rattle.prob_expr.specs.Vocabulary.{is_under, is_do_free, effect_on, EqualsEffect}
use Rattle.prob_expr.specs.Tree.{prob}
use Rattle.adjustment.specs.Vocabulary.{adjustment_formula, adjusted_sum}
use Rattle.adjust_command.specs.declared.criteria.Verdict.TheVariants.{Meets}
use Rattle.adjust_command.specs.Vocabulary.{IsVerdict}

-- it equals the effect
pub verdict_effect : (back_door : Bool) (q : MixedGraph) (x y z : ℕ) → IsVerdict back_door q x y z Meets
    → EqualsEffect q (effect_on x y) (adjustment_formula x y z)
verdict_effect false q x y z h = h.1
verdict_effect true q x y z (v, exposure, meets, effect) = effect

-- and has no intervention
free_main : (x y z : ℕ) (b : Bool) → is_under [] (cond b (prob y 0 x) (adjusted_sum x y z)) ≡ true
free_main x y z true = refl
free_main x y z false = refl

pub adjusted_free : (x y z : ℕ) → is_do_free (adjustment_formula x y z) ≡ true
adjusted_free x y z = free_main x y z (is_empty z)
