-- Where no set of a kind is smallest, there is none of that kind.
use Rattle.std.proofs.Common.{◌≡◌, ℕ, zero, suc, ◌+◌, ◌<◌, ◌≤◌, Bool, true, false, cond, inl, inr, arith, refl, subst}
use Rattle.std.proofs.lemmas.Bool.{cases_Bool, cases_lt}
use Rattle.minimal_sets.specs.Separators.{IsPart}

-- the number of members below n
size : (ℕ → Bool) → ℕ → ℕ
size s zero = 0
size s (suc n) = cond (s n) 1 0 + size s n

bit_le : (a b : Bool) → (a ≡ true → b ≡ true) → cond a 1 0 ≤ cond b 1 0
bit_le true true h = omega arith
bit_le true false h = absurd (grind (arith, h refl))
bit_le false true h = omega arith
bit_le false false h = omega arith

size_le : (p z : ℕ → Bool) → IsPart p z → (n : ℕ) → size p n ≤ size z n
unfolding size
size_le p z part zero = omega arith
size_le p z part (suc n) = let now = bit_le (p n) (z n) (part n) in let before = size_le p z part n in omega (arith, now, before)

bit_lt : (a b : Bool) → a ≡ false → b ≡ true → cond a 1 0 < cond b 1 0
bit_lt a b e f = rw (e, f) (omega arith)

size_lt : (p z : ℕ → Bool) → IsPart p z → (v : ℕ) → p v ≡ false → z v ≡ true → (n : ℕ) → v < n → size p n < size z n
unfolding size
size_lt p z part v out here zero h = absurd (omega arith)
size_lt p z part v out here (suc n) h = elim (cases_lt v n) [
  | inl lt ↦ let now = bit_le (p n) (z n) (part n) in let before = size_lt p z part v out here n lt in omega (arith, now, before)
  | inr ge ↦ let e : v ≡ n = omega arith in
      let now = bit_lt (p n) (z n) (subst (λ k. p k ≡ false) e out) (subst (λ k. z k ≡ true) e here) in
      let before = size_le p z part n in omega (arith, now, before)
]

-- sets of a kind that lie below n, and of which none is smallest
module _ (P : (ℕ → Bool) → Type 0) (n : ℕ) (below : (z : ℕ → Bool) → P z → (v : ℕ) → z v ≡ true → v < n)
    (none : (z : ℕ → Bool) → P z → ((p : ℕ → Bool) → IsPart p z → P p → IsPart z p) → ⊥) where
  none_smaller : (k : ℕ) (z : ℕ → Bool) → size z n < k → P z → ⊥
  none_smaller zero z h is = absurd (omega arith)
  none_smaller (suc k) z h is = none z is (λ p part fits v here. elim (cases_Bool (p v)) [
    | inl held ↦ held
    | inr out ↦ absurd (none_smaller k p (let fewer = size_lt p z part v out here n (below z is v here) in omega (arith, fewer)) fits)
  ])

  pub none_at_all : (z : ℕ → Bool) → P z → ⊥
  none_at_all z is = none_smaller (suc (size z n)) z (omega arith) is
