-- The test of experiments, and what it says of a hedge.
use Rattle.std.proofs.Common.{◌≡◌, ◌<◌, ◌≤◌, ◌^◌, ◌⊎◌, ℕ, Bool, true, false, not, ◌&&◌, eqb, List, [], ◌∷◌, inl, inr, refl, sym, ap, ◌∙◌, arith}
use Rattle.std.proofs.Common.{eqb-true, ltb-true}
use Rattle.std.specs.List.{list_all}
use Rattle.std.proofs.lemmas.Bool.{and_parts, both_ways, eq-eqb, or_cases, or_left, or_right, false_from_ne_true}
use Rattle.std.proofs.lemmas.Nat.{and_le_r}
use Rattle.std.proofs.Math.Pow.{pow_mono}
use Rattle.mixed_graph.specs.Vocabulary.{has, common, is_apart, is_below}
use Rattle.mixed_graph.proofs.Masks.{has-zero, has-and, some_in_meet}
use Rattle.mixed_graph.proofs.MaskLaws.{apart_from, apart_has}
use Rattle.prob_expr.specs.Vocabulary.{is_listed}
use Rattle.hedge.specs.declared.hedge.Hedge.{Hedge}
use Rattle.counter_models.specs.Vocabulary.{IsHarmlessTo}
use Rattle.check_command.specs.Replies.{is_harmless}

flipped : (b : Bool) → not b ≡ true → b ≡ false
flipped true e = sym e
flipped false e = refl

no_other : (b : Bool) → (b ≡ true → ⊥) → not b ≡ true
no_other true n = absurd (n refl)
no_other false n = refl

module _ (h : Hedge) where
  -- a set that meets the smaller one sets a member of it
  met : (n : ℕ) → n ≤ 64 → is_below n h.small.bits ≡ true → (z : ℕ) → is_apart h.small.bits z ≡ false → (r : ℕ) × (has h.small.bits r ≡ true) × (has z r ≡ true)
  met n few low z e =
      let small = h.small.bits in
      let lt : small < 2 ^ n = ltb-true small (2 ^ n) low in
      let le : 2 ^ n ≤ 2 ^ 64 = pow_mono few in
      let m = some_in_meet (common z small) z small (has-and z small) (λ q. absurd (both_ways (is_apart small z) e
      (apart_from small z (λ v i. false_from_ne_true (has z v)
      (λ k. absurd (both_ways (has (common z small) v) (ap (λ c. has c v) q ∙ has-zero v) (has-and z small v ∙ rw (k, i) refl)))))))
      (omega (arith, and_le_r z small, lt, le)) in
      (m.0, m.2, m.1)

  -- what the test says
  pub harmless_from : (n : ℕ) → n ≤ 64 → is_below n h.small.bits ≡ true → (z : ℕ) → is_harmless h z ≡ true → IsHarmlessTo h z
  harmless_from n few low z e = go (or_cases (is_apart h.big.bits z) (not (is_apart h.small.bits z)) e)
    where
      go : (is_apart h.big.bits z ≡ true) ⊎ (not (is_apart h.small.bits z) ≡ true) → IsHarmlessTo h z
      go (inl p) = inl (λ v i. apart_has h.big.bits z v p i)
      go (inr q) = inr (met n few low z (flipped (is_apart h.small.bits z) q))

  -- and where it says it
  pub is_harmless_to : (z : ℕ) → IsHarmlessTo h z → is_harmless h z ≡ true
  is_harmless_to z (inl apart) = or_left (is_apart h.big.bits z) (not (is_apart h.small.bits z)) (apart_from h.big.bits z apart)
  is_harmless_to z (inr m) = or_right (is_apart h.big.bits z) (not (is_apart h.small.bits z))
      (no_other (is_apart h.small.bits z) (λ p. absurd (both_ways (has z m.0) (apart_has h.small.bits z m.0 p m.1) m.2)))

  pub each_harmless : (zs : List ℕ) → list_all (is_harmless h) zs ≡ true → (z : ℕ) → is_listed z zs ≡ true → is_harmless h z ≡ true
  each_harmless [] e z l = absurd (grind (arith, l))
  each_harmless (w ∷ zs) e z l = go (or_cases (eqb z w) (is_listed z zs) l)
      (λ k. each_harmless zs (and_parts (is_harmless h w) (list_all (is_harmless h) zs) e).1 z k)
    where
      go : (eqb z w ≡ true) ⊎ (is_listed z zs ≡ true) → (is_listed z zs ≡ true → is_harmless h z ≡ true) → is_harmless h z ≡ true
      go (inl q) ih = ap (is_harmless h) (eqb-true z w q) ∙ (and_parts (is_harmless h w) (list_all (is_harmless h) zs) e).0
      go (inr k) ih = ih k

  -- where not all pass it, one of them doesn't
  pub one_meets : (zs : List ℕ) → list_all (is_harmless h) zs ≡ false → (z : ℕ) × (is_listed z zs ≡ true) × (is_harmless h z ≡ false)
  one_meets [] e = absurd (grind (arith, e))
  one_meets (w ∷ zs) e = go (is_harmless h w) refl (λ k. one_meets zs k)
    where
      go : (b : Bool) → is_harmless h w ≡ b → (list_all (is_harmless h) zs ≡ false → (z : ℕ) × (is_listed z zs ≡ true) × (is_harmless h z ≡ false))
          → (z : ℕ) × (is_listed z (w ∷ zs) ≡ true) × (is_harmless h z ≡ false)
      go false p ih = (w, or_left (eqb w w) (is_listed w zs) (eq-eqb w w refl), p)
      go true p ih = let r = ih (sym (ap (λ b. b && list_all (is_harmless h) zs) p) ∙ e) in (r.0, or_right (eqb r.0 w) (is_listed r.0 zs) r.1, r.2)
