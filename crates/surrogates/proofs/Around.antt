-- The experiments that leave a district alone, taken together.
use Rattle.std.proofs.Common.{ℕ, ◌≡◌, ◌<◌, ◌≤◌, ◌^◌, Bool, true, false, not, cond, eqb, ◌&&◌, ◌⊎◌, inl, inr, List, [], ◌∷◌, refl, sym, ap, ◌∙◌, arith}
use Rattle.std.proofs.Common.{eqb-true, ltb-true}
use Rattle.std.proofs.lemmas.Bool.{and_parts, both_ways, or_cases, or_left, or_right, false_from_ne_true}
use Rattle.std.proofs.lemmas.Nat.{and_le_r}
use Rattle.std.proofs.Math.Pow.{pow_mono}
use Rattle.mixed_graph.specs.Vocabulary.{has, union, common, is_apart, is_below, is_empty, Apart}
use Rattle.mixed_graph.proofs.Masks.{has-zero, has-or, has-and, some_in_meet}
use Rattle.mixed_graph.proofs.MaskLaws.{apart_has, apart_from}
use Rattle.prob_expr.specs.Vocabulary.{is_listed}
use Rattle.do_derivation.specs.Vocabulary.{are_sets}
use Rattle.surrogates.specs.Common.{around, EachIsHarmless, AroundIsApart}

pub around_is_apart : AroundIsApart
around_is_apart c [] = apart_from 0 c (λ v e. absurd (both (has 0 v) e (has-zero v)))
  where
    both : (b : Bool) → b ≡ true → b ≡ false → ⊥
    both true e f = absurd (grind (arith, f))
    both false e f = absurd (grind (arith, e))
around_is_apart c (z ∷ zs) = go (is_apart z c) refl (around_is_apart c zs)
  where
    go : (b : Bool) → is_apart z c ≡ b → is_apart (around c zs) c ≡ true → is_apart (cond b (union z (around c zs)) (around c zs)) c ≡ true
    go true e ih = apart_from (union z (around c zs)) c (λ v h. at v (or_cases (has z v) (has (around c zs) v) (sym (has-or z (around c zs) v) ∙ h)))
      where
        at : (v : ℕ) → (has z v ≡ true) ⊎ (has (around c zs) v ≡ true) → has c v ≡ false
        at v (inl h) = apart_has z c v e h
        at v (inr h) = apart_has (around c zs) c v ih h
    go false e ih = ih

pub around_holds : (c z : ℕ) (zs : List ℕ) → is_listed z zs ≡ true → is_apart z c ≡ true → (v : ℕ) → has z v ≡ true → has (around c zs) v ≡ true
around_holds c z [] l e v h = absurd (grind (arith, l))
around_holds c z (w ∷ zs) l e v h = go (is_apart w c) refl (or_cases (eqb z w) (is_listed z zs) l) (λ k. around_holds c z zs k e v h)
  where
    wrong : (a b : Bool) → a ≡ true → b ≡ false → a ≡ b → ⊥
    wrong true true p q s = absurd (grind (arith, q))
    wrong true false p q s = absurd (grind (arith, s))
    wrong false b p q s = absurd (grind (arith, p))

    go : (b : Bool) → is_apart w c ≡ b → (eqb z w ≡ true) ⊎ (is_listed z zs ≡ true) → (is_listed z zs ≡ true → has (around c zs) v ≡ true)
        → has (cond b (union w (around c zs)) (around c zs)) v ≡ true
    go true f (inl q) ih = has-or w (around c zs) v ∙ or_left (has w v) (has (around c zs) v) (ap (λ m. has m v) (sym (eqb-true z w q)) ∙ h)
    go true f (inr k) ih = has-or w (around c zs) v ∙ or_right (has w v) (has (around c zs) v) (ih k)
    go false f (inl q) ih = absurd (wrong (is_apart z c) (is_apart w c) e f (ap (λ m. is_apart m c) (eqb-true z w q)))
    go false f (inr k) ih = ih k

listed_below : (n z : ℕ) (zs : List ℕ) → are_sets n zs ≡ true → is_listed z zs ≡ true → is_below n z ≡ true
listed_below n z [] s l = absurd (grind (arith, l))
listed_below n z (w ∷ zs) s l = go (or_cases (eqb z w) (is_listed z zs) l)
    (λ k. listed_below n z zs (and_parts (is_below n w && not (is_empty w)) (are_sets n zs) s).1 k)
  where
    go : (eqb z w ≡ true) ⊎ (is_listed z zs ≡ true) → (is_listed z zs ≡ true → is_below n z ≡ true) → is_below n z ≡ true
    go (inl q) ih = ap (is_below n) (eqb-true z w q) ∙
        (and_parts (is_below n w) (not (is_empty w)) (and_parts (is_below n w && not (is_empty w)) (are_sets n zs) s).0).0
    go (inr k) ih = ih k

common_free : (c z : ℕ) → common c z ≡ 0 → (v : ℕ) → has z v ≡ true → has c v ≡ false
common_free c z q v h = false_from_ne_true (has c v)
    (λ k. absurd (both_ways (has (common c z) v) (ap (λ m. has m v) q ∙ has-zero v) (has-and c z v ∙ rw (k, h) refl)))

pub each_is_harmless : EachIsHarmless
each_is_harmless = λ n few zs sets c big apart z l. harmless n few zs sets c big apart z l (is_apart z c) refl
  where
    harmless : (n : ℕ) → n ≤ 64 → (zs : List ℕ) → are_sets n zs ≡ true → (c big : ℕ) → Apart (has big) (has (around c zs))
        → (z : ℕ) → is_listed z zs ≡ true → (b : Bool) → is_apart z c ≡ b → Apart (has big) (has z) ⊎ ((r : ℕ) × (has c r ≡ true) × (has z r ≡ true))
    harmless n few zs sets c big apart z l true e = inl
        (λ v h. false_from_ne_true (has z v) (λ k. absurd (both_ways (has (around c zs) v) (apart v h) (around_holds c z zs l e v k))))
    harmless n few zs sets c big apart z l false e =
        let lt : z < 2 ^ n = ltb-true z (2 ^ n) (listed_below n z zs sets l) in
        let le : 2 ^ n ≤ 2 ^ 64 = pow_mono few in
        let m = some_in_meet (common c z) c z (has-and c z) (λ q. absurd (both_ways (is_apart z c) e (apart_from z c (λ v h. common_free c z q v h))))
        (omega (arith, and_le_r c z, lt, le)) in
        inr (m.0, m.1, m.2)
