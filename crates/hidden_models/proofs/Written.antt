-- A loop that writes digits in mixed radix, from the last one on.
use Rattle.std.proofs.Common.{ℕ, suc, ◌/◌, ◌%◌, ◌≡◌, ◌<◌, ◌≤◌, Bool, cond, sym, ap, ap₂, ◌∙◌, ◌⊎◌, inl, inr, List, length, get_or, set, replicate, subst, arith}
use Rattle.std.proofs.lemmas.Bool.{cases_eq, cases_lt}
use Rattle.std.proofs.lemmas.List.{get_or-replicate, get_or_past, get_or-set_same, get_or-set_other, length-replicate}
use Rattle.hidden_models.specs.Digits.{digits}
use Rattle.hidden_models.proofs.DigitLaws.{digits-past, digits-last, digits-before}

-- the places from k on are written, and `rest` writes those before
pub record AreWritten (n : ℕ) (p : ℕ → Bool) (b : ℕ → ℕ) (i : ℕ) (written : ℕ → ℕ) (rest k : ℕ) : Type 0 where
  pub before : (t : ℕ) → t < k → digits n p b i t ≡ digits k p b rest t
  pub from : (t : ℕ) → k ≤ t → written t ≡ digits n p b i t

pub written-none : (n : ℕ) (p : ℕ → Bool) (b : ℕ → ℕ) (i k : ℕ) (written : ℕ → ℕ) → k ≡ n → ((t : ℕ) → written t ≡ 0) → AreWritten n p b i written i k
written-none n p b i k written e zeros = record {
  before = λ t lt. ap (λ m. digits m p b i t) (sym e);
  from = λ t le. zeros t ∙ sym (digits-past n p b i t (omega arith));
}

-- each entry of a list of zeros is 0, and so is what is taken to stand past it
pub all_zero : (n t : ℕ) → ◌≡◌ {A = ℕ} (get_or (replicate n 0) t 0) 0
all_zero n t = elim (cases_lt t n) [
  | inl lt ↦ get_or-replicate {A = ℕ} n t 0 0 lt
  | inr ge ↦ let zs : List ℕ = replicate n 0 in get_or_past zs t 0 (let e = length-replicate {A = ℕ} n 0 in omega arith)
]

-- the next digit is written
pub written-more : (n : ℕ) (p : ℕ → Bool) (b : ℕ → ℕ) (i : ℕ) (values : List ℕ) (rest rest' from to at digit base : ℕ) (kept : Bool) → at < length values
    → from ≡ suc at → to ≡ at → kept ≡ p at → base ≡ b at
    → digit ≡ cond kept (rest % base) 0 → rest' ≡ cond kept (rest / base) rest → AreWritten n p b i (λ k. get_or values k 0) rest from
    → AreWritten n p b i (λ k. get_or (set values at digit) k 0) rest' to
written-more n p b i values rest rest' from to at digit base kept lt ef et k x d r w = record {
  before = λ t l. w.before t (omega arith) ∙ ap (λ m. digits m p b rest t) ef ∙ digits-before at p b rest t (omega arith)
      ∙ ap₂ (λ m q. digits m p b q t) (sym et) (sym (rw (k, x) at r));
  from = λ t le. go t (cases_eq t at) (omega arith);
}
  where
    go : (t : ℕ) → (t ≡ at) ⊎ (t ≡ at → ⊥) → at ≤ t → get_or (set values at digit) t 0 ≡ digits n p b i t
    go t (inl e) le = subst (λ y. get_or (set values at digit) y 0 ≡ digits n p b i y) (sym e)
        (get_or-set_same values at digit 0 lt ∙ rw (k, x) at d ∙ sym (digits-last at p b rest) ∙ ap (λ m. digits m p b rest at) (sym ef)
        ∙ sym (w.before at (omega arith)))
    go t (inr ne) le = get_or-set_other values at t digit 0 ne ∙ w.from t (omega arith)
