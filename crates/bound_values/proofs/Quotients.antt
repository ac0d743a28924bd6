-- Fractions compared by Euclid's steps.
use Rattle.std.proofs.Common.{ℕ, ◌+◌, ◌*◌, ◌/◌, ◌%◌, ◌≡◌, ◌<◌, ◌≤◌, true, false, ltb, leb, sym, ap, ap₂, ◌∙◌, subst, inl, inr, arith}
use Rattle.std.proofs.Common.{mul-le-mul, mul-le-mul_right, mul-pos}
use Rattle.std.proofs.lemmas.Bool.{cases_lt, lt-ltb, le-ltb, lt-leb, le-leb}
use Rattle.std.proofs.Math.Nat.{lt-mul-div-succ, mul-div-le}

-- a is b times its quotient, and its rest
apart : (a b : ℕ) → b * (a / b) + a % b ≡ a
apart a b = omega arith

-- a / b < c / d as whole numbers
less_products : (a b c d : ℕ) → 1 ≤ b → 1 ≤ d → a / b < c / d → a * d < c * b
less_products a b c d pb pd lt =
    let one : a < b * (a / b + 1) = lt-mul-div-succ a pb in
    let two : d * (c / d) ≤ c = mul-div-le c d in
    let three : (a + 1) * d ≤ (b * (a / b + 1)) * d = mul-le-mul_right d (omega (arith, one)) in
    let four : (d * (c / d)) * b ≤ c * b = mul-le-mul_right b two in
    let five : (d * b) * (a / b + 1) ≤ (d * b) * (c / d) = mul-le-mul (let r : d * b ≤ d * b = omega arith in r) (omega (arith, lt)) in
    let six : (b * (a / b + 1)) * d ≡ (d * b) * (a / b + 1) = omega arith in
    let seven : (d * (c / d)) * b ≡ (d * b) * (c / d) = omega arith in
    let eight : (a + 1) * d ≡ a * d + d = omega arith in
    omega (arith, three, four, five, six, seven, eight, pd)

-- where the quotients differ, they decide
pub by_quotients : (a b c d : ℕ) → 1 ≤ b → 1 ≤ d → (a / b ≡ c / d → ⊥) → ltb (a / b) (c / d) ≡ leb (a * d) (c * b)
by_quotients a b c d pb pd differ = elim (cases_lt (a / b) (c / d)) [
  | inl lt ↦ lt-ltb (a / b) (c / d) lt
      ∙ sym (le-leb (a * d) (c * b) (let l = less_products a b c d pb pd lt in omega (arith, l)))
  | inr ge ↦ le-ltb (a / b) (c / d) ge
      ∙ sym (lt-leb (a * d) (c * b) (less_products c d a b pd pb (omega (arith, ge, differ))))
]

-- where they are equal, the rests do
same_whole : (a b c d : ℕ) → a / b ≡ c / d → (b * (a / b)) * d ≡ (d * (c / d)) * b
same_whole a b c d same =
    let one : (b * (a / b)) * d ≡ (b * d) * (a / b) = omega arith in
    let two : (d * (c / d)) * b ≡ (b * d) * (c / d) = omega arith in
    one ∙ ap (λ k. (b * d) * k) same ∙ sym two

leb_more : (k x y : ℕ) → leb x y ≡ leb (k + x) (k + y)
leb_more k x y = elim (cases_lt y x) [
  | inl lt ↦ lt-leb x y lt ∙ sym (lt-leb (k + x) (k + y) (omega (arith, lt)))
  | inr le ↦ le-leb x y le ∙ sym (le-leb (k + x) (k + y) (omega (arith, le)))
]

pub by_rests : (a b c d : ℕ) → a / b ≡ c / d → leb (a % b * d) (c % d * b) ≡ leb (a * d) (c * b)
by_rests a b c d same =
    let left : (b * (a / b)) * d + a % b * d ≡ a * d =
    (let e : (b * (a / b)) * d + a % b * d ≡ (b * (a / b) + a % b) * d = omega arith in e) ∙ ap (λ k. k * d) (apart a b) in
    let right : (d * (c / d)) * b + c % d * b ≡ c * b =
    (let e : (d * (c / d)) * b + c % d * b ≡ (d * (c / d) + c % d) * b = omega arith in e) ∙ ap (λ k. k * b) (apart c d) in
    leb_more ((b * (a / b)) * d) (a % b * d) (c % d * b)
    ∙ ap₂ leb left (ap (λ k. k + c % d * b) (same_whole a b c d same) ∙ right)

pub no_left : (a b c d : ℕ) → a / b ≡ c / d → a % b ≡ 0 → true ≡ leb (a * d) (c * b)
no_left a b c d same none =
    sym (le-leb (a % b * d) (c % d * b) (subst (λ k. k * d ≤ c % d * b) (sym none) (omega arith))) ∙ by_rests a b c d same

pub no_right : (a b c d : ℕ) → 1 ≤ d → a / b ≡ c / d → (a % b ≡ 0 → ⊥) → c % d ≡ 0 → false ≡ leb (a * d) (c * b)
no_right a b c d pd same some none =
    sym (lt-leb (a % b * d) (c % d * b) (subst (λ k. k * b < a % b * d) (sym none)
    (let p : 1 ≤ a % b * d = mul-pos (let s : 1 ≤ a % b = omega (arith, some) in s) pd in omega (arith, p)))) ∙ by_rests a b c d same

-- and turned
pub turned : (a b c d : ℕ) → a / b ≡ c / d → leb (d * (a % b)) (b * (c % d)) ≡ leb (a * d) (c * b)
turned a b c d same =
    ap₂ leb (let e : d * (a % b) ≡ a % b * d = omega arith in e) (let e : b * (c % d) ≡ c % d * b = omega arith in e) ∙ by_rests a b c d same
