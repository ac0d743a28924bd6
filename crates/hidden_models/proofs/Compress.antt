-- A number in mixed radix over the members of a set, by their new numbers, is the one over all places.
use Rattle.std.proofs.Common.{ℕ, zero, suc, ◌+◌, ◌*◌, ◌≡◌, ◌<◌, Bool, true, false, cond, refl, sym, subst, arith}
use Rattle.mixed_graph.proofs.Members.{length-members-zero}
use Rattle.finite_models.specs.Vocabulary.{radix, radix_range}
use Rattle.hidden_models.proofs.FoldingLaw.{position}
use Rattle.hidden_models.proofs.Positions.{position_suc}

-- flags, bases and digits at the members of j by their new numbers, and at their old ones
pub record AreAt (j : ℕ → Bool) (n : ℕ) (p' p : ℕ → Bool) (b' b s' s : ℕ → ℕ) : Type 0 where
  pub flag : (i : ℕ) → i < n → j i ≡ true → p' (position j i) ≡ p i
  pub base : (i : ℕ) → i < n → j i ≡ true → b' (position j i) ≡ b i
  pub digit : (i : ℕ) → i < n → j i ≡ true → s' (position j i) ≡ s i
  pub outside : (i : ℕ) → i < n → j i ≡ false → p i ≡ false

front : (j : ℕ → Bool) (n : ℕ) (p' p : ℕ → Bool) (b' b s' s : ℕ → ℕ) → AreAt j (suc n) p' p b' b s' s → AreAt j n p' p b' b s' s
front j n p' p b' b s' s h = record {
  flag = λ i lt e. h.flag i (omega arith) e;
  base = λ i lt e. h.base i (omega arith) e;
  digit = λ i lt e. h.digit i (omega arith) e;
  outside = λ i lt e. h.outside i (omega arith) e;
}

pub radix_compress : (j : ℕ → Bool) (n : ℕ) (p' p : ℕ → Bool) (b' b s' s : ℕ → ℕ) → AreAt j n p' p b' b s' s → radix (position j n) p' b' s' ≡ radix n p b s
radix_compress j zero p' p b' b s' s h = subst (λ k. radix k p' b' s' ≡ 0) (sym (length-members-zero j)) refl
radix_compress j (suc n) p' p b' b s' s h = subst (λ k. radix k p' b' s' ≡ radix (suc n) p b s) (sym (position_suc j n))
    (go (j n) refl (radix_compress j n p' p b' b s' s (front j n p' p b' b s' s h)))
  where
    go : (c : Bool) → j n ≡ c → radix (position j n) p' b' s' ≡ radix n p b s
        → radix (cond c (suc (position j n)) (position j n)) p' b' s' ≡ cond (p n) (radix n p b s * b n + s n) (radix n p b s)
    go true e ih = rw (h.flag n (omega arith) e, h.base n (omega arith) e, h.digit n (omega arith) e, ih) refl
    go false e ih = rw (h.outside n (omega arith) e) ih

pub range_compress : (j : ℕ → Bool) (n : ℕ) (p' p : ℕ → Bool) (b' b : ℕ → ℕ) → AreAt j n p' p b' b (λ i. 0) (λ i. 0) → radix_range (position j n) p' b'
    ≡ radix_range n p b
range_compress j zero p' p b' b h = subst (λ k. radix_range k p' b' ≡ 1) (sym (length-members-zero j)) refl
range_compress j (suc n) p' p b' b h = subst (λ k. radix_range k p' b' ≡ radix_range (suc n) p b) (sym (position_suc j n))
    (go (j n) refl (range_compress j n p' p b' b (front j n p' p b' b (λ i. 0) (λ i. 0) h)))
  where
    go : (c : Bool) → j n ≡ c → radix_range (position j n) p' b' ≡ radix_range n p b
        → radix_range (cond c (suc (position j n)) (position j n)) p' b' ≡ cond (p n) (radix_range n p b * b n) (radix_range n p b)
    go true e ih = rw (h.flag n (omega arith) e, h.base n (omega arith) e, ih) refl
    go false e ih = rw (h.outside n (omega arith) e) ih
