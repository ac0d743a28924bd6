-- Masks of the numbers below n that pass a test.
use Rattle.std.proofs.Common.{ℕ, ◌-◌, ◌^◌, ◌≡◌, ◌<◌, ◌≤◌, ◌⊎◌, inl, inr, Bool, false, ◌&&◌, ◌==◌, nat_lt, sym, ap, ◌∙◌, arith}
use Rattle.std.proofs.lemmas.Bool.{cases_lt}
use Rattle.std.proofs.lemmas.Nat.{pow_pos}
use Rattle.std.proofs.lemmas.Nat.Bits.{bit_at_above}
use Rattle.mixed_graph.specs.Vocabulary.{has}
use Rattle.mixed_graph.proofs.Masks.{has-ones, le_from_subset, same_from_has}
use Rattle.finite_models.specs.Vocabulary.{mask_of}
use Rattle.finite_models.proofs.Bools.{and_second}
use Rattle.finite_models.proofs.Packed.{has-mask}

-- below n, the mask has what the test passes
pub mask_has : (t : ℕ → Bool) (n v : ℕ) → v < n → has (mask_of t n) v ≡ t v
mask_has t n v lt = has-mask t n v ∙ inside (t v) v n lt
  where
    inside : (b : Bool) (v n : ℕ) → v < n → (b && nat_lt v n) ≡ b
    inside b v n lt = grind (arith, lt)

-- equal tests have one mask
pub mask_same : (t r : ℕ → Bool) (n : ℕ) → ((i : ℕ) → i < n → t i ≡ r i) → mask_of t n ≡ mask_of r n
mask_same t r n h = same_from_has (mask_of t n) (mask_of r n) (λ v. has-mask t n v ∙ go v (cases_lt v n) ∙ sym (has-mask r n v))
  where
    out : (b c : Bool) (v n : ℕ) → n ≤ v → (b && nat_lt v n) ≡ (c && nat_lt v n)
    out b c v n le = grind (arith, le)

    go : (v : ℕ) → (v < n) ⊎ (n ≤ v) → (t v && nat_lt v n) ≡ (r v && nat_lt v n)
    go v (inl lt) = ap (λ b. b && nat_lt v n) (h v lt)
    go v (inr ge) = out (t v) (r v) v n ge

-- a mask is below 2 ^ n
pub mask_low : (t : ℕ → Bool) (n : ℕ) → mask_of t n < 2 ^ n
mask_low t n =
    let le = le_from_subset (mask_of t n) (2 ^ n - 1) (λ v e. has-ones n v ∙ and_second (t v) (nat_lt v n) (sym (has-mask t n v) ∙ e)) in
    omega (arith, le, pow_pos n)

-- a number below 2 ^ n is the mask of its bits
pub mask_own : (a n : ℕ) → a < 2 ^ n → mask_of (has a) n ≡ a
unfolding has
mask_own a n low = same_from_has (mask_of (has a) n) a (λ v. has-mask (has a) n v ∙ go v (cases_lt v n))
  where
    above : (v : ℕ) → n ≤ v → has a v ≡ false
    above v ge = ap (λ t. t == 1) (bit_at_above a n v low ge)

    inside : (b : Bool) (v n : ℕ) → v < n → (b && nat_lt v n) ≡ b
    inside b v n lt = grind (arith, lt)

    none : (b c : Bool) → b ≡ false → (b && c) ≡ b
    none b c e = grind (arith, e)

    go : (v : ℕ) → (v < n) ⊎ (n ≤ v) → (has a v && nat_lt v n) ≡ has a v
    go v (inl lt) = inside (has a v) v n lt
    go v (inr ge) = none (has a v) (nat_lt v n) (above v ge)
