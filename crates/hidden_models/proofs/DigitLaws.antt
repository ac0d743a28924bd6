-- Digits in mixed radix, from the last one on.
use Rattle.std.proofs.Common.{ℕ, zero, suc, ◌+◌, ◌*◌, ◌/◌, ◌%◌, ◌≡◌, ◌<◌, ◌≤◌, Bool, true, false, cond, eqb, refl, sym, ap, ◌∙◌, ◌⊎◌, inl, inr, subst}
use Rattle.std.proofs.Common.{arith, eqb-true}
use Rattle.std.proofs.lemmas.Bool.{cases_eq}
use Rattle.std.proofs.lemmas.Nat.{div-mul-add, mod-mul-add}
use Rattle.finite_models.specs.Vocabulary.{set_at, radix}
use Rattle.finite_models.proofs.SumLaws.{set_at-same, set_at-other}
use Rattle.hidden_models.specs.Digits.{digits}

pub digits_radix : (n : ℕ) (p : ℕ → Bool) (b s : ℕ → ℕ) → ((k : ℕ) → k < n → p k ≡ true → s k < b k) → (k : ℕ) → k < n → p k ≡ true
    → digits n p b (radix n p b s) k ≡ s k
digits_radix zero p b s h k lt e = absurd (omega arith)
digits_radix (suc n) p b s h k lt e = go (p n) refl (digits_radix n p b s (λ i il f. h i (omega arith) f) k)
  where
    less : eqb k n ≡ false → k < n
    less q = let d : k ≡ n → ⊥ = λ t. absurd (grind (arith, t, q)) in omega arith

    go : (c : Bool) → p n ≡ c → (k < n → p k ≡ true → digits n p b (radix n p b s) k ≡ s k)
        → cond c (set_at (digits n p b (cond c (radix n p b s * b n + s n) (radix n p b s) / b n)) n (cond c (radix n p b s * b n + s n) (radix n p b s) % b n))
        (digits n p b (cond c (radix n p b s * b n + s n) (radix n p b s))) k ≡ s k
    go false f ih = ih (let d : k ≡ n → ⊥ = λ t. absurd (grind (arith, ap p t, e, f)) in omega arith) e
    go true f ih = at (eqb k n) refl
      where
        last : s n < b n
        last = h n (omega arith) f

        at : (c : Bool) → eqb k n ≡ c → cond (eqb k n) ((radix n p b s * b n + s n) % b n) (digits n p b ((radix n p b s * b n + s n) / b n) k) ≡ s k
        at true q = rw q (mod-mul-add (radix n p b s) (b n) (s n) last ∙ ap s (sym (eqb-true k n q)))
        at false q = rw q (rw (div-mul-add (radix n p b s) (b n) (s n) last) (ih (less q) e))

-- past the last place a digit is 0
pub digits-past : (n : ℕ) (p : ℕ → Bool) (b : ℕ → ℕ) (i t : ℕ) → n ≤ t → digits n p b i t ≡ 0
digits-past zero p b i t le = refl
digits-past (suc n) p b i t le = go (p n) (λ k. digits-past n p b k t (omega arith))
  where
    go : (c : Bool) → ((k : ℕ) → digits n p b k t ≡ 0) → cond c (set_at (digits n p b (i / b n)) n (i % b n)) (digits n p b i) t ≡ 0
    go true past = set_at-other (digits n p b (i / b n)) n (i % b n) t (λ e. omega arith) ∙ past (i / b n)
    go false past = past i

-- the last digit
pub digits-last : (k : ℕ) (p : ℕ → Bool) (b : ℕ → ℕ) (i : ℕ) → digits (suc k) p b i k ≡ cond (p k) (i % b k) 0
digits-last k p b i = go (p k)
  where
    go : (c : Bool) → cond c (set_at (digits k p b (i / b k)) k (i % b k)) (digits k p b i) k ≡ cond c (i % b k) 0
    go true = set_at-same (digits k p b (i / b k)) k (i % b k)
    go false = digits-past k p b i k (omega arith)

-- those before it are the digits of what is left
pub digits-before : (k : ℕ) (p : ℕ → Bool) (b : ℕ → ℕ) (i t : ℕ) → t < k → digits (suc k) p b i t ≡ digits k p b (cond (p k) (i / b k) i) t
digits-before k p b i t lt = go (p k)
  where
    go : (c : Bool) → cond c (set_at (digits k p b (i / b k)) k (i % b k)) (digits k p b i) t ≡ digits k p b (cond c (i / b k) i) t
    go true = set_at-other (digits k p b (i / b k)) k (i % b k) t (λ e. omega arith)
    go false = refl

below_base : (x b : ℕ) → 0 < b → x % b < b
below_base x b pos = omega arith

-- each digit is below its base
pub digits-lt : (n : ℕ) (p : ℕ → Bool) (b : ℕ → ℕ) → ((k : ℕ) → k < n → 0 < b k) → (i t : ℕ) → t < n → digits n p b i t < b t
digits-lt zero p b pos i t lt = absurd (omega arith)
digits-lt (suc n) p b pos i t lt = go (cases_eq t n) (λ l. digits-lt n p b (λ k h. pos k (omega arith)) (cond (p n) (i / b n) i) t l)
  where
    last : (c : Bool) → cond c (i % b n) 0 < b n
    last true = below_base i (b n) (pos n (omega arith))
    last false = pos n (omega arith)

    go : (t ≡ n) ⊎ (t ≡ n → ⊥) → (t < n → digits n p b (cond (p n) (i / b n) i) t < b t) → digits (suc n) p b i t < b t
    go (inl e) ih = subst (λ x. digits (suc n) p b i x < b x) (sym e) (subst (λ x. x < b n) (sym (digits-last n p b i)) (last (p n)))
    go (inr d) ih = let l : t < n = omega arith in subst (λ x. x < b t) (sym (digits-before n p b i t l)) (ih l)
