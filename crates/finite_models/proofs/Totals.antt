-- A sum of numbers is positive exactly where one of them is.
use Rattle.std.proofs.Common.{ℕ, zero, suc, ◌≡◌, ◌<◌, ◌≤◌, inl, inr, refl, arith}
use Rattle.std.proofs.lemmas.Bool.{cases_eq}
use Rattle.finite_models.specs.Sums.{sum_below}

pub sum_below-positive : (n : ℕ) (f : ℕ → ℕ) (i : ℕ) → i < n → 1 ≤ f i → 1 ≤ sum_below n f
sum_below-positive zero f i lt h = absurd (omega arith)
sum_below-positive (suc n) f i lt h = elim (cases_eq i n) [
  | inl e ↦ let k : 1 ≤ f n = rw e at h in omega arith
  | inr d ↦ let k : 1 ≤ sum_below n f = sum_below-positive n f i (omega arith) h in omega arith
]

pub sum_below-zero : (n : ℕ) (f : ℕ → ℕ) → ((i : ℕ) → i < n → f i ≡ 0) → sum_below n f ≡ 0
sum_below-zero zero f h = refl
sum_below-zero (suc n) f h = let a : sum_below n f ≡ 0 = sum_below-zero n f (λ i l. h i (omega arith)) in let b : f n ≡ 0 = h n (omega arith) in omega arith
