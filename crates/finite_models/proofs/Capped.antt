-- Products that stop at a cap.
use Rattle.std.proofs.Common.{ℕ, zero, suc, ◌+◌, ◌*◌, ◌≡◌, ◌≤◌, Bool, true, false, cond, min, inl, inr, refl, ap, ◌∙◌, arith}
use Rattle.std.proofs.lemmas.Bool.{cases_lt}
use Rattle.finite_models.specs.Tables.{radix_range}

over_cap : (t c b : ℕ) → c ≤ t → min (c * b) c ≡ min (t * b) c
over_cap t c zero ge = let e : c * 0 ≡ 0 = omega arith in let f : t * 0 ≡ 0 = omega arith in rw (e, f) refl
over_cap t c (suc b) ge = let e : c * suc b ≡ c * b + c = omega arith in let f : t * suc b ≡ t * b + t = omega arith in rw (e, f) (omega arith)

pub capped : (t b c : ℕ) → min (min t c * b) c ≡ min (t * b) c
capped t b c = elim (cases_lt t c) [
  | inl lt ↦ let e : min t c ≡ t = omega arith in rw e refl
  | inr ge ↦ let e : min t c ≡ c = omega arith in rw e (over_cap t c b ge)
]

-- one more factor, where it is kept
capped_more : (range start t b c : ℕ) (kept : Bool) → range ≡ min (start * t) c → cond kept (min (range * b) c) range ≡ min (start * cond kept (t * b) t) c
capped_more range start t b c true e = rw e (capped (start * t) b c ∙ ap (λ x. min x c) (let a : start * t * b ≡ start * (t * b) = omega arith in a))
capped_more range start t b c false e = e

capped_more_one : (range t b c : ℕ) (kept : Bool) → range ≡ min t c → cond kept (min (range * b) c) range ≡ min (cond kept (t * b) t) c
capped_more_one range t b c true e = rw e (capped t b c)
capped_more_one range t b c false e = e

-- the capped range after a start, times the next base where that is kept, is the next range, capped
pub range_more : (n : ℕ) (p : ℕ → Bool) (b : ℕ → ℕ) (start range base range' cap : ℕ) (kept : Bool) → range ≡ min (start * radix_range n p b) cap → kept ≡ p n
    → base ≡ b n
    → range' ≡ cond kept (min (range * base) cap) range → range' ≡ min (start * radix_range (n + 1) p b) cap
range_more n p b start range base range' cap kept h k i r =
    let e : n + 1 ≡ suc n = omega arith in
    let r' : range' ≡ cond (p n) (min (range * b n) cap) range = rw (k, i) at r in
    rw e (r' ∙ capped_more range start (radix_range n p b) (b n) cap (p n) h)

-- the same without a start
pub range_more_one : (n : ℕ) (p : ℕ → Bool) (b : ℕ → ℕ) (range base range' cap : ℕ) (kept : Bool) → range ≡ min (radix_range n p b) cap → kept ≡ p n → base
    ≡ b n
    → range' ≡ cond kept (min (range * base) cap) range → range' ≡ min (radix_range (n + 1) p b) cap
range_more_one n p b range base range' cap kept h k i r =
    let e : n + 1 ≡ suc n = omega arith in
    let r' : range' ≡ cond (p n) (min (range * b n) cap) range = rw (k, i) at r in
    rw e (r' ∙ capped_more_one range (radix_range n p b) (b n) cap (p n) h)

-- a number capped above n is n exactly where it was
pub capped_is : (x n r s q : ℕ) → s ≡ min x (n + 1) → r ≡ min (s * q) (n + 1) → (r ≡ n → n ≡ x * q) × (n ≡ x * q → r ≡ n)
capped_is x n r s q h k = let e : min (s * q) (n + 1) ≡ min (x * q) (n + 1) = rw h (capped x q (n + 1)) in (λ a. omega arith, λ a. omega arith)
