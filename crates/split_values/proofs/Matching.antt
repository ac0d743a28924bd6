-- Over weights that match a positive model the value is the model's.
use Rattle.std.proofs.Common.{ℕ, ◌≡◌, ◌<◌, Bool, true, false, cond, eqb, ◌||◌, refl, sym, ◌∙◌, subst, arith}
use Rattle.mixed_graph.specs.Vocabulary.{has, MixedGraph, IsMixedGraph, union}
use Rattle.mixed_graph.proofs.MaskLaws.{has_join, has_none}
use Rattle.fractions.specs.Vocabulary.{Fraction, IsEqual, div}
use Rattle.fractions.proofs.FractionLaws.{equal_sym, equal_trans, div_equal}
use Rattle.finite_models.specs.Vocabulary.{FiniteModel, Fits, IsAssignment, IsPositiveModel}
use Rattle.finite_models.proofs.Bools.{either, not_both}
use Rattle.finite_models.proofs.Solutions.{agree_from, agree_gives}
use Rattle.prob_expr.specs.Vocabulary.{PlainFormula, Weights, effect, effect_on, is_do_free, value_of, weights_of}
use Rattle.prob_expr.proofs.ValueLaws.{values_are_positive}
use Rattle.quantity.specs.Kinds.{Pair}
use Rattle.quantity.specs.Vocabulary.{Kind, IsLawful}
use Rattle.differences.specs.Vocabulary.{IsLawfulDifference, Subtraction, minus}
use Rattle.differences.proofs.MinusLaws.{equal_at_most, minus_equal}
use Rattle.count_eval.specs.Vocabulary.{AllUsed, IsMatched, IsUsed}
use Rattle.count_eval.proofs.Matched.{matched_has_value}
use Rattle.treated_models.specs.Vocabulary.{IsOtherValue, effect_among}
use Rattle.factor_values.specs.Vocabulary.{chance_of}
use Rattle.split_values.specs.Laws.{AreObservedAt, IsObservedSplit, IsSplitTarget, NoneIsUnmatched, SplitEnclosesAmong}
use Rattle.split_values.specs.Values.{IsNotBelow, is_same, left_value, share_of, shown_of, split_value}
use Rattle.split_values.proofs.Consistency.{shown_effect}
use Rattle.split_values.proofs.Enclosing.{split_is_enclosed, none_is_below}
use Rattle.split_values.proofs.Splitting.{left_effect, shown_at_most}

module _ (g : MixedGraph) (ok : IsMixedGraph g) (m : FiniteModel) (fit : Fits g m) (positive : IsPositiveModel m) (used : ℕ → Bool) (w : Weights) (every : ℕ)
    (k : IsMatched used w every m) (x y z : ℕ) (joint : PlainFormula) (asked : IsSplitTarget g x y z joint) (observed : IsObservedSplit used w x y z joint)
    (s t : ℕ → ℕ) (at : AreObservedAt m x s t) where
  -- ---- what is over the counts, and what is in the model
  same_value : (f : PlainFormula) → is_do_free f ≡ true → AllUsed used f.defs → IsUsed used f.main → (r : ℕ → ℕ) → IsAssignment m.vertices m.size r
      → IsEqual (value_of w f r) (value_of (weights_of m) f r)
  same_value f free defs main r hr = (matched_has_value g ok m fit positive used w every k f free defs main r hr).1

  given_used : (u : ℕ) → has (union x z) u ≡ true → used u ≡ true
  given_used u e = either (has x u) (has z u) (used u ≡ true) (sym (has_join x z u) ∙ e) (observed.x_used u) (observed.z_used u)

  all_used : (u : ℕ) → has (union (union x y) z) u ≡ true → used u ≡ true
  all_used u e = either (has (union x y) u) (has z u) (used u ≡ true) (sym (has_join (union x y) z u) ∙ e)
      (λ i. either (has x u) (has y u) (used u ≡ true) (sym (has_join x y u) ∙ i) (observed.x_used u) (observed.y_used u)) (observed.z_used u)

  none_used : (u : ℕ) → has 0 u ≡ true → used u ≡ true
  none_used u e = absurd (not_both (has 0 u) e (has_none u))

  same_joint : IsEqual (value_of w joint s) (effect m (effect_on x (union y z)) s)
  same_joint = equal_trans (value_of w joint s) (value_of (weights_of m) joint s) (effect m (effect_on x (union y z)) s)
      (same_value joint asked.do_free observed.defs observed.main s at.first) (asked.equals m fit positive s at.first)

  same_shown : IsEqual (value_of w (shown_of x y z) s) (value_of (weights_of m) (shown_of x y z) s)
  same_shown = same_value (shown_of x y z) refl tt (all_used, none_used) s at.first

  same_others : IsEqual (value_of w (chance_of (union x z)) t) (value_of (weights_of m) (chance_of (union x z)) t)
  same_others = same_value (chance_of (union x z)) refl tt (given_used, none_used) t at.second

  -- ---- the levels
  alike : is_same w.vertices x s t ≡ true → (v : ℕ) → v < m.vertices → t v ≡ s v
  alike e v vl = go (has x v) refl
    where
      go : (b : Bool) → has x v ≡ b → t v ≡ s v
      go true i = sym (agree_gives w.vertices (has x) s t e v (let n = k.vertices in omega (arith, vl, n)) i)
      go false i = at.others v i

  other : is_same w.vertices x s t ≡ false → IsOtherValue m asked.vertex s t
  other e =
      let v = asked.vertex in
      let own : has x v ≡ true = asked.single v ∙ (let r : (eqb v v) ≡ true = grind arith in r) in
      let low : v < m.vertices = let l = asked.target.x_low v own in let n = fit.vertices in omega (arith, l, n) in
      let size : w.size v ≡ m.size v = k.sizes v low (observed.x_used v own) in
      let two = observed.two v own in
      let first = at.first v low in
      let second = at.second v low in
      let differs : t v ≡ s v → ⊥ = λ q. not_both (is_same w.vertices x s t) (agree_from w.vertices (has x) s t (λ u ul i.
      subst (λ n. s n ≡ t n) (let r : v ≡ u = grind (arith, asked.single u, i) in r) (sym q))) e in
      record {
        vertex = low;
        two = omega (arith, size, two, first, second, differs);
        inside = omega (arith, size, two, second);
        other = differs;
      }

  -- ---- the value
  equal_effect : IsEqual (split_value w x y z joint s t) (effect_among m (has x) (has y) (λ u. has x u || has z u) s t)
  equal_effect = go (is_same w.vertices x s t) refl
    where
      go : (b : Bool) → is_same w.vertices x s t ≡ b
          → IsEqual (cond b (value_of w (share_of y (union x z)) s) (div (left_value w x y z joint s) (value_of w (chance_of (union x z)) t)))
          (effect_among m (has x) (has y) (λ u. has x u || has z u) s t)
      go true e = subst (λ (f : Fraction). IsEqual (value_of w (share_of y (union x z)) s) f)
          (shown_effect g ok m fit x y z s t at.first (alike e))
          (same_value (share_of y (union x z)) refl tt (observed.y_used, given_used) s at.first)
      go false e =
          let a = effect m (effect_on x (union y z)) s in
          let b = value_of (weights_of m) (shown_of x y z) s in
          let c = value_of (weights_of m) (chance_of (union x z)) t in
          let left = left_value w x y z joint s in
          let p = value_of w (chance_of (union x z)) t in
          equal_trans (div left p) (div (minus a b) c) (effect_among m (has x) (has y) (λ u. has x u || has z u) s t)
          (equal_sym (div (minus a b) c) (div left p)
          (div_equal (minus a b) left c p (values_are_positive g ok m fit positive (chance_of (union x z)) t at.second).top
          (equal_sym left (minus a b) (minus_equal (value_of w joint s) a (value_of w (shown_of x y z) s) b same_joint same_shown))
          (equal_sym p c same_others)))
          (left_effect g ok m fit positive x y z asked.target asked.vertex asked.single s t at.first at.second (other e) at.others)

  not_below : IsNotBelow w x y z joint s t
  not_below e =
      let a = effect m (effect_on x (union y z)) s in
      let b = value_of (weights_of m) (shown_of x y z) s in
      equal_at_most a (value_of w joint s) b (value_of w (shown_of x y z) s) (equal_sym (value_of w joint s) a same_joint)
      (equal_sym (value_of w (shown_of x y z) s) b same_shown)
      (shown_at_most g ok m fit positive x y z asked.target asked.vertex asked.single s t at.first at.second (other e) at.others)

pub split_encloses_among : (kind : Kind) (less : Subtraction) (covers encloses : Pair → Fraction → Type 0) → IsLawful kind covers
    → IsLawfulDifference kind less covers encloses → SplitEnclosesAmong kind less encloses
split_encloses_among kind less covers encloses law split g ok m fit positive used w every k x y z joint asked observed s t at c is =
    split.equal c (split_value w x y z joint s t) (effect_among m (has x) (has y) (λ u. has x u || has z u) s t)
    ((split_is_enclosed kind less covers encloses law split w x y z joint s t c is).1
    (not_below g ok m fit positive used w every k x y z joint asked observed s t at))
    (equal_effect g ok m fit positive used w every k x y z joint asked observed s t at)

pub none_is_unmatched : (kind : Kind) (less : Subtraction) (covers encloses : Pair → Fraction → Type 0) → IsLawful kind covers
    → IsLawfulDifference kind less covers encloses → NoneIsUnmatched kind less
none_is_unmatched kind less covers encloses law split g ok m fit positive used w every k x y z joint asked observed s t at is =
    none_is_below kind less covers encloses law split w x y z joint s t is
    (not_below g ok m fit positive used w every k x y z joint asked observed s t at)
