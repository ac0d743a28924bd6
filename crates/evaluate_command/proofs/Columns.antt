-- Which columns are read, by what a formula names.
use Rattle.std.proofs.Common.{◌≡◌, ℕ, Bool, true, false, cond, subst}
use Rattle.mixed_graph.specs.Vocabulary.{has, union, is_empty}
use Rattle.prob_expr.specs.Tree.{prob}
use Rattle.adjustment.specs.Vocabulary.{adjustment_formula, adjusted_sum}
use Rattle.evaluate_command.specs.Effects.{PlainEffect, used_in}
use Rattle.prob_expr.specs.Mentioned.{mentioned}
use Rattle.prob_expr.specs.Vocabulary.{mentioned_in}
use Rattle.evaluate_command.proofs.Mentions.{in_either, in_none}

-- what holds of the vertices that the formula names, of x, of y and of what is given holds of each that is read
pub used_only : (P : ℕ → Type 0) (e : PlainEffect) → ((v : ℕ) → has (mentioned e.formula) v ≡ true → P v) → ((v : ℕ) → has e.x v ≡ true → P v)
    → ((v : ℕ) → has e.y v ≡ true → P v)
    → ((v : ℕ) → has e.given v ≡ true → P v) → (v : ℕ) → has (used_in e) v ≡ true → P v
used_only P e of_formula of_x of_y of_given v h =
    in_either (P v) (mentioned e.formula) (union e.x (union e.y e.given)) v (of_formula v)
    (in_either (P v) e.x (union e.y e.given) v (of_x v) (in_either (P v) e.y e.given v (of_y v) (of_given v))) h

-- nothing is given
pub none_given : (P : ℕ → Type 0) (given : ℕ) → given ≡ 0 → (v : ℕ) → has given v ≡ true → P v
none_given P given none v h = in_none (P v) v (subst (λ m. has m v ≡ true) none h)

-- an adjustment formula names x, y and z
module _ (P : ℕ → Type 0) (x y z : ℕ) (of_x : (v : ℕ) → has x v ≡ true → P v) (of_y : (v : ℕ) → has y v ≡ true → P v)
    (of_z : (v : ℕ) → has z v ≡ true → P v) where
  in_main : (b : Bool) (v : ℕ) → has (mentioned_in (cond b (prob y 0 x) (adjusted_sum x y z))) v ≡ true → P v
  in_main true v h = in_either (P v) (union y 0) x v (in_either (P v) y 0 v (of_y v) (in_none (P v) v)) (of_x v) h
  in_main false v h =
      in_either (P v) z (union (union (union z 0) 0) (union (union (union y 0) (union x z)) 0)) v (of_z v)
      (in_either (P v) (union (union z 0) 0) (union (union (union y 0) (union x z)) 0) v
      (in_either (P v) (union z 0) 0 v (in_either (P v) z 0 v (of_z v) (in_none (P v) v)) (in_none (P v) v))
      (in_either (P v) (union (union y 0) (union x z)) 0 v
      (in_either (P v) (union y 0) (union x z) v (in_either (P v) y 0 v (of_y v) (in_none (P v) v)) (in_either (P v) x z v (of_x v) (of_z v)))
      (in_none (P v) v))) h

  pub adjustment_names : (v : ℕ) → has (mentioned (adjustment_formula x y z)) v ≡ true → P v
  adjustment_names v h = in_either (P v) 0 (mentioned_in (cond (is_empty z) (prob y 0 x) (adjusted_sum x y z))) v (in_none (P v) v) (in_main (is_empty z) v) h
