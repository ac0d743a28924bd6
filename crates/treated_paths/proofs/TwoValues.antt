-- The joint effect of a treatment of two values.
use Rattle.std.proofs.Common.{ℕ, ◌+◌, ◌≡◌, ◌==◌, ◌||◌, Bool, true, false, cond, refl, sym, ap, ap₂, ◌∙◌, arith}
use mathlib.Core.Path.{fun_ext}
use Rattle.mixed_graph.specs.Vocabulary.{MixedGraph, IsMixedGraph}
use Rattle.finite_models.specs.Vocabulary.{FiniteModel, Fits, IsAssignment, event_weight}
use Rattle.finite_models.proofs.Bools.{either}
use Rattle.treated_models.specs.Vocabulary.{held, weight_of_both, IsBefore}
use Rattle.treated_models.proofs.Held.{treated_is_held}
use Rattle.treated_models.proofs.TwoValues.{two_values_split}
use Rattle.treated_paths.specs.TwoValues.{TwoValuesSplitJoint}

module _ (g : MixedGraph) (ok : IsMixedGraph g) (m : FiniteModel) (fit : Fits g m) (x y z : ℕ → Bool) (before : IsBefore g x (λ u. x u || z u))
    (y_off_x : (u : ℕ) → y u ≡ true → x u ≡ false) (y_off_z : (u : ℕ) → y u ≡ true → z u ≡ false) (z_off_x : (u : ℕ) → z u ≡ true → x u ≡ false)
    (s t : ℕ → ℕ) (within : IsAssignment m.vertices m.size s) (elsewhere : (u : ℕ) → x u ≡ false → t u ≡ s u) where
  alone : IsBefore g x x
  alone = record {
    past = before.past;
    holds = λ u e. before.holds u (left (x u) (z u) e);
    closed = before.closed;
    untouched = before.untouched;
  }
    where
      left : (p q : Bool) → p ≡ true → (p || q) ≡ true
      left p q h = grind (arith, h)

  -- what isn't after x has its observed value under do(x) too
  beside : weight_of_both m x (λ u. y u || z u) x s t ≡ weight_of_both m x y (λ u. x u || z u) s t
  beside =
      treated_is_held g ok m fit x (λ u. y u || z u) x alone off off s t within
      ∙ ap₂ (event_weight (held m x s)) (fun_ext (λ u. turned (y u) (x u) (z u))) (fun_ext (λ u. read u (x u) (z u) refl))
      ∙ sym (treated_is_held g ok m fit x y (λ u. x u || z u) before y_off_x (λ u e. none (x u) (z u) (y_off_x u e) (y_off_z u e)) s t within)
    where
      off : (u : ℕ) → (y u || z u) ≡ true → x u ≡ false
      off u e = either (y u) (z u) (x u ≡ false) e (y_off_x u) (z_off_x u)

      none : (p q : Bool) → p ≡ false → q ≡ false → (p || q) ≡ false
      none p q h k = grind (arith, h, k)

      turned : (a b c : Bool) → ((a || c) || b) ≡ (a || (b || c))
      turned a b c = grind arith

      read : (u : ℕ) (i j : Bool) → x u ≡ i → cond i (t u) (s u) ≡ cond (i || j) (t u) (s u)
      read u true j e = refl
      read u false true e = sym (elsewhere u e)
      read u false false e = refl

pub two_values_split_joint : TwoValuesSplitJoint
two_values_split_joint g ok m fit v y z before y_off_x y_off_z z_off_x s t within other elsewhere =
    two_values_split g ok m fit v (λ u. y u || z u) s t within other
    ∙ ap (λ n. event_weight m (λ u. (y u || z u) || (u == v)) s + n)
    (beside g ok m fit (λ u. u == v) y z before y_off_x y_off_z z_off_x s t within elsewhere)
