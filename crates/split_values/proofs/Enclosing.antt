-- What a kind gives encloses the value.
use Rattle.std.proofs.Common.{ℕ, ◌≡◌, ◌≤◌, Bool, true, false, cond, eqb, ne_eqb, ◌&&◌, not, refl, ap, arith, Option, Some, None, Result, Ok, Err}
use Rattle.std.proofs.lemmas.Bool.{and_from}
use Rattle.mixed_graph.specs.Vocabulary.{union}
use Rattle.fractions.specs.Vocabulary.{Fraction, div}
use Rattle.prob_expr.specs.Vocabulary.{PlainFormula, Weights, value_of}
use Rattle.quantity.specs.declared.fault.QuantityFault.{QuantityFault}
use Rattle.quantity.specs.Kinds.{Pair}
use Rattle.quantity.specs.Vocabulary.{Kind, IsLawful}
use Rattle.differences.specs.Vocabulary.{IsAtMost, IsLawfulDifference, Subtraction}
use Rattle.count_eval.specs.Stops.{Stop}
use Rattle.count_eval.specs.Vocabulary.{after, formula_value, is_supported, placed, plain}
use Rattle.count_eval.proofs.Covered.{formula_good}
use Rattle.factor_values.specs.Vocabulary.{chance_of}
use Rattle.split_values.specs.Laws.{SplitIsEnclosed, NoneIsBelow}
use Rattle.split_values.specs.Outcomes.{as_some, if_left, left_outcome, others_outcome, placed_left, same_outcome, split_outcome}
use Rattle.split_values.specs.Values.{is_same, left_value, share_of, shown_of, split_supported, split_value}

-- ---- what was there before an outcome
record IsAfter {A B E : Type 0} (r : Result A E) (f : A → Result B E) (b : B) : Type 0 where
  value : A
  first : r ≡ Ok value
  next : f value ≡ Ok b

is_after : {A B E : Type 0} (r : Result A E) (f : A → Result B E) (b : B) → after r f ≡ Ok b → IsAfter r f b
is_after (Ok a) f b e = record { value = a; first = refl; next = e }
is_after (Err x) f b e = absurd (cc)

some_is : (r : Result Pair Stop) (c : Pair) → as_some r ≡ Ok (Some c) → r ≡ Ok c
some_is (Ok a) c e = ap (λ k. Ok k) (let same : a ≡ c = cc in same)
some_is (Err x) c e = absurd (cc)

some_never : (r : Result Pair Stop) → as_some r ≡ Ok None → ⊥
some_never (Ok a) e = absurd (cc)
some_never (Err x) e = absurd (cc)

placed_is : (s : ℕ → ℕ) (r : Result Pair QuantityFault) (c : Pair) → placed None 0 s r ≡ Ok c → r ≡ Ok c
placed_is s (Ok a) c e = ap (λ k. Ok k) (let same : a ≡ c = cc in same)
placed_is s (Err x) c e = absurd (cc)

left_is : (s : ℕ → ℕ) (r : Result (Option Pair) QuantityFault) (o : Option Pair) → placed_left s r ≡ Ok o → r ≡ Ok o
left_is s (Ok a) o e = ap (λ k. Ok k) (let same : a ≡ o = cc in same)
left_is s (Err x) o e = absurd (cc)

not_zero : (n : ℕ) → 1 ≤ n → not (eqb n 0) ≡ true
not_zero n le = ap not (ne_eqb n 0 (λ e. absurd (omega (arith, le, e))))

module _ (kind : Kind) (less : Subtraction) (covers encloses : Pair → Fraction → Type 0) (law : IsLawful kind covers)
    (split : IsLawfulDifference kind less covers encloses) (w : Weights) (x y z : ℕ) (joint : PlainFormula) (s t : ℕ → ℕ) where
  abbrev others : PlainFormula
  others = chance_of (union x z)

  -- a formula that has a value
  covered : (f : PlainFormula) (r : ℕ → ℕ) (c : Pair) → formula_value (plain kind) w f r ≡ Ok c → (is_supported w f r ≡ true) × covers c (value_of w f r)
  covered f r c e = (formula_good kind covers law w f r).found c e

  -- the joint effect and those who have the levels that are set, where there is a difference
  record IsLeft (o : Option Pair) : Type 0 where
    whole : Pair
    whole_is : formula_value (plain kind) w joint s ≡ Ok whole
    shown : Pair
    shown_is : formula_value (plain kind) w (shown_of x y z) s ≡ Ok shown
    is : less whole shown ≡ Ok o

  is_left : (o : Option Pair) → left_outcome kind less w x y z joint s ≡ Ok o → IsLeft o
  is_left o e =
      let first = is_after (formula_value (plain kind) w joint s)
      (λ a. after (formula_value (plain kind) w (shown_of x y z) s) (λ b. placed_left s (less a b))) o e in
      let second = is_after (formula_value (plain kind) w (shown_of x y z) s) (λ b. placed_left s (less first.value b)) o first.next in
      record {
        whole = first.value;
        whole_is = first.first;
        shown = second.value;
        shown_is = second.first;
        is = left_is s (less first.value second.value) o second.next;
      }

  -- the share of what is left
  share_encloses : (d c : Pair) → IsLeft (Some d) → others_outcome kind w x z s t d ≡ Ok (Some c)
      → ((is_supported w joint s && (is_supported w (shown_of x y z) s && (is_supported w others t && not (eqb (value_of w others t).top 0)))) ≡ true)
      × (IsAtMost (value_of w (shown_of x y z) s) (value_of w joint s) → encloses c (div (left_value w x y z joint s) (value_of w others t)))
  share_encloses d c k e =
      let share = is_after (formula_value (plain kind) w others t) (λ p. as_some (placed None 0 t (kind.div d p))) (Some c) e in
      let is = placed_is t (kind.div d share.value) c (some_is (placed None 0 t (kind.div d share.value)) c share.next) in
      let a = covered joint s k.whole k.whole_is in
      let b = covered (shown_of x y z) s k.shown k.shown_is in
      let p = covered others t share.value share.first in
      let some = split.divisor d share.value c (value_of w others t) p.1 is in (
        and_from (is_supported w joint s) (is_supported w (shown_of x y z) s && (is_supported w others t && not (eqb (value_of w others t).top 0))) a.0
            (and_from (is_supported w (shown_of x y z) s) (is_supported w others t && not (eqb (value_of w others t).top 0)) b.0
            (and_from (is_supported w others t) (not (eqb (value_of w others t).top 0)) p.0 (not_zero (value_of w others t).top some))),
        λ at_most. split.div d share.value c (left_value w x y z joint s) (value_of w others t)
            (split.difference k.whole k.shown d (value_of w joint s) (value_of w (shown_of x y z) s) a.1 b.1 at_most k.is) p.1 is,
      )

  others_enclose : (c : Pair) → after (left_outcome kind less w x y z joint s) (if_left (others_outcome kind w x z s t)) ≡ Ok (Some c)
      → ((is_supported w joint s && (is_supported w (shown_of x y z) s && (is_supported w others t && not (eqb (value_of w others t).top 0)))) ≡ true)
      × (IsAtMost (value_of w (shown_of x y z) s) (value_of w joint s) → encloses c (div (left_value w x y z joint s) (value_of w others t)))
  others_enclose c e =
      let k = is_after (left_outcome kind less w x y z joint s) (if_left (others_outcome kind w x z s t)) (Some c) e in
      go k.value (is_left k.value k.first) k.next
    where
      go : (o : Option Pair) → IsLeft o → if_left (others_outcome kind w x z s t) o ≡ Ok (Some c)
          → ((is_supported w joint s && (is_supported w (shown_of x y z) s && (is_supported w others t && not (eqb (value_of w others t).top 0)))) ≡ true)
          × (IsAtMost (value_of w (shown_of x y z) s) (value_of w joint s) → encloses c (div (left_value w x y z joint s) (value_of w others t)))
      go (Some d) k is = share_encloses d c k is
      go None k is = absurd (cc)

  -- nothing is left
  others_below : after (left_outcome kind less w x y z joint s) (if_left (others_outcome kind w x z s t)) ≡ Ok None
      → IsAtMost (value_of w (shown_of x y z) s) (value_of w joint s) → ⊥
  others_below e at_most =
      let k = is_after (left_outcome kind less w x y z joint s) (if_left (others_outcome kind w x z s t)) None e in
      go k.value (is_left k.value k.first) k.next
    where
      go : (o : Option Pair) → IsLeft o → if_left (others_outcome kind w x z s t) o ≡ Ok None → ⊥
      go (Some d) k is =
          let share = is_after (formula_value (plain kind) w others t) (λ p. as_some (placed None 0 t (kind.div d p))) None is in
          some_never (placed None 0 t (kind.div d share.value)) share.next
      go None k is =
          split.below k.whole k.shown (value_of w joint s) (value_of w (shown_of x y z) s) (covered joint s k.whole k.whole_is).1
          (covered (shown_of x y z) s k.shown k.shown_is).1 k.is at_most

  enclosed : (c : Pair) → split_outcome kind less w x y z joint s t ≡ Ok (Some c)
      → (split_supported w x y z joint s t ≡ true)
      × ((is_same w.vertices x s t ≡ false → IsAtMost (value_of w (shown_of x y z) s) (value_of w joint s)) → encloses c (split_value w x y z joint s t))
  enclosed c = go (is_same w.vertices x s t)
    where
      go : (b : Bool)
          → cond b (same_outcome kind w x y z s) (after (left_outcome kind less w x y z joint s) (if_left (others_outcome kind w x z s t))) ≡ Ok (Some c)
          → (cond b (is_supported w (share_of y (union x z)) s)
          (is_supported w joint s && (is_supported w (shown_of x y z) s && (is_supported w others t && not (eqb (value_of w others t).top 0)))) ≡ true)
          × ((b ≡ false → IsAtMost (value_of w (shown_of x y z) s) (value_of w joint s))
          → encloses c (cond b (value_of w (share_of y (union x z)) s) (div (left_value w x y z joint s) (value_of w others t))))
      go true e =
          let k = covered (share_of y (union x z)) s c (some_is (formula_value (plain kind) w (share_of y (union x z)) s) c e) in
          (k.0, λ at_most. split.weaker c (value_of w (share_of y (union x z)) s) k.1)
      go false e = let k = others_enclose c e in (k.0, λ at_most. k.1 (at_most refl))

  none_below : split_outcome kind less w x y z joint s t ≡ Ok None
      → (is_same w.vertices x s t ≡ false → IsAtMost (value_of w (shown_of x y z) s) (value_of w joint s)) → ⊥
  none_below = go (is_same w.vertices x s t)
    where
      go : (b : Bool)
          → cond b (same_outcome kind w x y z s) (after (left_outcome kind less w x y z joint s) (if_left (others_outcome kind w x z s t))) ≡ Ok None
          → (b ≡ false → IsAtMost (value_of w (shown_of x y z) s) (value_of w joint s)) → ⊥
      go true e at_most = some_never (formula_value (plain kind) w (share_of y (union x z)) s) e
      go false e at_most = others_below e (at_most refl)

pub split_is_enclosed : (kind : Kind) (less : Subtraction) (covers encloses : Pair → Fraction → Type 0) → IsLawful kind covers
    → IsLawfulDifference kind less covers encloses → SplitIsEnclosed kind less encloses
split_is_enclosed kind less covers encloses law split w x y z joint s t c e = enclosed kind less covers encloses law split w x y z joint s t c e

pub none_is_below : (kind : Kind) (less : Subtraction) (covers encloses : Pair → Fraction → Type 0) → IsLawful kind covers
    → IsLawfulDifference kind less covers encloses → NoneIsBelow kind less
none_is_below kind less covers encloses law split w x y z joint s t e = none_below kind less covers encloses law split w x y z joint s t e
