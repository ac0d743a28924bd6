-- The least number that passes a test.
use Rattle.std.proofs.Common.{◌⊎◌, inl, inr, ℕ, zero, suc, ◌≡◌, ◌<◌, ◌≤◌, Bool, true, false, refl, arith}
use Rattle.std.proofs.lemmas.Bool.{cases_lt}
use Rattle.finite_models.proofs.Bools.{not_both}

pub record First (t : ℕ → Bool) (n : ℕ) : Type 0 where
  pub at : ℕ
  pub low : at ≤ n
  pub inside : t at ≡ true
  pub before : (i : ℕ) → i < at → t i ≡ false

-- up to n none passes, or there is a least that does
pub search : (t : ℕ → Bool) (n : ℕ) → ((i : ℕ) → i ≤ n → t i ≡ false) ⊎ First t n
search t zero = go (t 0) refl
  where
    go : (b : Bool) → t 0 ≡ b → ((i : ℕ) → i ≤ 0 → t i ≡ false) ⊎ First t 0
    go true e = inr (record { at = 0; low = omega arith; inside = e; before = λ i lt. absurd (omega (arith, lt)) })
    go false e = inl (λ i le. let same : i ≡ 0 = omega (arith, le) in rw same e)
search t (suc n) = elim (search t n) [
  | inl none ↦ go none (t (suc n)) refl
  | inr f ↦ inr (record { at = f.at; low = (let le = f.low in omega (arith, le)); inside = f.inside; before = f.before })
]
  where
    go : ((i : ℕ) → i ≤ n → t i ≡ false) → (b : Bool) → t (suc n) ≡ b → ((i : ℕ) → i ≤ suc n → t i ≡ false) ⊎ First t (suc n)
    go none true e = inr (record { at = suc n; low = omega arith; inside = e; before = λ i lt. none i (omega (arith, lt)) })
    go none false e = inl at
      where
        at : (i : ℕ) → i ≤ suc n → t i ≡ false
        at i le = elim (cases_lt i (suc n)) [
          | inl low ↦ none i (omega (arith, low))
          | inr high ↦ (let same : i ≡ suc n = omega (arith, le, high) in rw same e)
        ]

-- where n passes there is one
pub first : (t : ℕ → Bool) (n : ℕ) → t n ≡ true → First t n
first t n e = elim (search t n) [
  | inl none ↦ absurd (not_both (t n) e (none n (omega arith)))
  | inr f ↦ f
]
