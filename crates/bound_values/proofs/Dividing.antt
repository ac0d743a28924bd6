-- Long division, and quotients of whole numbers.
use Rattle.std.proofs.Common.{ℕ, ◌+◌, ◌-◌, ◌*◌, ◌/◌, ◌%◌, ◌≡◌, ◌<◌, ◌≤◌, Bool, true, false, cond, eqb, refl, ap, ◌∙◌, inl, inr, arith}
use Rattle.std.proofs.Common.{mul-le-mul_right}
use Rattle.std.proofs.Math.Nat.{div-lt_iff_lt-mul}
use Rattle.std.proofs.lemmas.Bool.{cases_lt}
use Rattle.quantity.specs.Vocabulary.{ceiling}

-- a quotient is at most k where n is at most k d
pub quotient_most : (n d k : ℕ) → 1 ≤ d → n ≤ k * d → n / d ≤ k
quotient_most n d k pd le =
    let lt : n / d < k + 1 = (div-lt_iff_lt-mul pd).1 (let e : (k + 1) * d ≡ k * d + d = omega arith in omega (arith, le, pd, e)) in
    omega (arith, lt)

-- and less where n is less
pub quotient_less : (n d k : ℕ) → 1 ≤ d → n < k * d → n / d < k
quotient_less n d k pd lt = (div-lt_iff_lt-mul pd).1 lt

-- the quotient and the rest are known by what they give
pub quotient_is : (n d k r : ℕ) → n ≡ k * d + r → r < d → n / d ≡ k
quotient_is n d k r e lt =
    let up : n / d < k + 1 = quotient_less n d (k + 1) (omega (arith, lt)) (let f : (k + 1) * d ≡ k * d + d = omega arith in omega (arith, e, lt, f)) in
    let down : k ≤ n / d = elim (cases_lt (n / d) k) [
      | inl l ↦ absurd (let g : n < (n / d + 1) * d = (div-lt_iff_lt-mul (let s : 1 ≤ d = omega (arith, lt) in s)).0 (omega arith) in
          let h : (n / d + 1) * d ≤ k * d = mul-le-mul_right d (omega (arith, l)) in omega (arith, g, h, e))
      | inr ge ↦ ge
    ] in
    omega (arith, up, down)

-- rounded up it is one more, unless nothing is left
pub ceiling_is : (n d k r : ℕ) → n ≡ k * d + r → r < d → ceiling n d ≡ cond (eqb r 0) k (k + 1)
ceiling_is n d k r e lt = go (eqb r 0) refl
  where
    go : (c : Bool) → eqb r 0 ≡ c → ceiling n d ≡ cond c k (k + 1)
    go true none =
        let z : r ≡ 0 = grind (arith, none) in
        quotient_is (n + (d - 1)) d k (d - 1) (omega (arith, e, z)) (omega (arith, lt))
    go false some =
        let s : r ≡ 0 → ⊥ = λ z. absurd (grind (arith, z, some)) in
        quotient_is (n + (d - 1)) d (k + 1) (r - 1) (let f : (k + 1) * d ≡ k * d + d = omega arith in omega (arith, e, f, s, lt)) (omega (arith, lt, s))

-- one step of a long division, six digits at a time
pub step : (n d : ℕ) → n ≡ n / d * d + n % d
step n d = omega arith

-- three steps
pub three_steps : (t b s a ra c rc f rf : ℕ) → t * s ≡ a * b + ra → ra * s ≡ c * b + rc → rc * s ≡ f * b + rf
    → t * (s * s * s) ≡ ((a * s + c) * s + f) * b + rf
three_steps t b s a ra c rc f rf one two three =
    let x : t * (s * s * s) ≡ (t * s) * s * s = omega arith in
    let y : (t * s) * s * s ≡ (a * b) * s * s + ra * s * s = ap (λ k. k * s * s) one ∙ omega arith in
    let z : ra * s * s ≡ (c * b) * s + rc * s = ap (λ k. k * s) two ∙ omega arith in
    let w : ((a * s + c) * s + f) * b + rf ≡ (a * b) * s * s + (c * b) * s + (f * b + rf) = omega arith in
    omega (arith, x, y, z, three, w)
