-- A sum over all points of a box, by the numbers of the points in mixed radix.
use Rattle.std.proofs.Common.{ℕ, zero, suc, ◌+◌, ◌*◌, ◌/◌, ◌%◌, ◌≡◌, ◌<◌, ◌≤◌, true, cond, ltb, refl, sym, ap, ◌∙◌, inl, inr, arith}
use Rattle.std.proofs.Math.Nat.{div-div-eq-div-mul, mul-add-div_right, mul-add-mod_self_right, div-eq_of_lt, mod-eq_of_lt, div-zero, mod-zero}
use Rattle.std.proofs.lemmas.Nat.{div-mul-add}
use Rattle.std.proofs.lemmas.Bool.{cases_lt, cases_order, lt-ltb, le-ltb}
use mathlib.Core.Path.{fun_ext}
use Rattle.finite_models.specs.Sums.{sum_below, product_below, sum_over, set_at}
use Rattle.finite_models.proofs.Radix.{sum_below-product}
use Rattle.finite_models.proofs.SumLaws.{sum_below-congr, sum_below-mul, over-mul-right, set_at-same, set_at-other}

-- the point with the digits of w below n, and with the coordinates of b from n on
abbrev pub digits : ℕ → (ℕ → ℕ) → ℕ → (ℕ → ℕ) → ℕ → ℕ
digits n s w b k = cond (ltb k n) (w / product_below k s % s k) (b k)

digits-below : (n : ℕ) (s : ℕ → ℕ) (w : ℕ) (b : ℕ → ℕ) (k : ℕ) → k < n → digits n s w b k ≡ w / product_below k s % s k
digits-below n s w b k lt = let e = lt-ltb k n lt in rw e refl

digits-above : (n : ℕ) (s : ℕ → ℕ) (w : ℕ) (b : ℕ → ℕ) (k : ℕ) → n ≤ k → digits n s w b k ≡ b k
digits-above n s w b k le = let e = le-ltb k n le in rw e refl

-- the product of the first n factors has the product of the first k and factor k as factors
record HasFactors (s : ℕ → ℕ) (n k : ℕ) : Type 0 where
  rest : ℕ
  is : product_below n s ≡ product_below k s * (s k * rest)

factors : (s : ℕ → ℕ) (n k : ℕ) → k < n → HasFactors s n k
factors s zero k lt = absurd (omega arith)
factors s (suc n) k lt = elim (cases_order k n) [
  | inl e ↦ record { rest = 1; is = rw e (omega arith) }
  | inr o ↦ elim o [
    | inl l ↦ let f = factors s n k l in record { rest = f.rest * s n; is = grown (product_below n s) (product_below k s) (s k) f.rest (s n) f.is }
    | inr l ↦ absurd (omega arith)
  ]
]
  where
    grown : (p q a r t : ℕ) → p ≡ q * (a * r) → p * t ≡ q * (a * (r * t))
    grown p q a r t e = rw e (omega arith)

low_digit : (i p a c q r : ℕ) → p ≡ a * (c * q) → 0 < a → (i * p + r) / a % c ≡ r / a % c
low_digit i p a c q r e pos =
    let f : i * p + r ≡ (i * q * c) * a + r = rw e (omega arith) in
    let h : ((i * q * c) * a + r) / a ≡ i * q * c + r / a = mul-add-div_right pos (i * q * c) r in
    rw (f, h) (mul-add-mod_self_right (i * q) c (r / a))

positive_factor : (p a x : ℕ) → p ≡ a * x → 0 < p → 0 < a
positive_factor p zero x e pos = absurd (omega arith)
positive_factor p (suc a) x e pos = omega arith

-- the number with one more digit
digits-more : (n : ℕ) (s : ℕ → ℕ) (i r : ℕ) (b : ℕ → ℕ) → i < s n → r < product_below n s → (k : ℕ) → digits (suc n) s (i * product_below n s + r) b k
    ≡ digits n s r (set_at b n i) k
digits-more n s i r b il rl k = elim (cases_order k n) [
  | inl e ↦ rw e (digits-below (suc n) s (i * product_below n s + r) b n (omega arith)
      ∙ ap (λ x. x % s n) (div-mul-add i (product_below n s) r rl) ∙ mod-eq_of_lt il ∙ sym (set_at-same b n i)
      ∙ sym (digits-above n s r (set_at b n i) n (omega arith)))
  | inr o ↦ elim o [
    | inl l ↦ let f = factors s n k l in
        digits-below (suc n) s (i * product_below n s + r) b k (omega arith)
        ∙ low_digit i (product_below n s) (product_below k s) (s k) f.rest r f.is
        (positive_factor (product_below n s) (product_below k s) (s k * f.rest) f.is (omega arith))
        ∙ sym (digits-below n s r (set_at b n i) k l)
    | inr l ↦ digits-above (suc n) s (i * product_below n s + r) b k (omega arith) ∙ sym (set_at-other b n i k (omega arith))
        ∙ sym (digits-above n s r (set_at b n i) k (omega arith))
  ]
]

over-digits : (s : ℕ → ℕ) (n : ℕ) (f : (ℕ → ℕ) → ℕ) (b : ℕ → ℕ) → sum_over (λ j. true) s n f b ≡ sum_below (product_below n s) (λ w. f (digits n s w b))
over-digits s zero f b = let e : digits 0 s 0 b ≡ b = fun_ext (λ k. digits-above 0 s 0 b k (omega arith)) in rw e (omega arith)
over-digits s (suc n) f b =
    sum_below-congr (s n) (λ x. sum_over (λ j. true) s n f (set_at b n x))
    (λ x. sum_below (product_below n s) (λ r. f (digits (suc n) s (x * product_below n s + r) b)))
    (λ x lt. over-digits s n f (set_at b n x)
    ∙ sum_below-congr (product_below n s) (λ r. f (digits n s r (set_at b n x))) (λ r. f (digits (suc n) s (x * product_below n s + r) b))
    (λ r rl. ap f (sym (fun_ext (digits-more n s x r b lt rl)))))
    ∙ sym (sum_below-product (s n) (product_below n s) (λ w. f (digits (suc n) s w b)))
    ∙ ap (λ t. sum_below t (λ w. f (digits (suc n) s w b))) (let e : s n * product_below n s ≡ product_below n s * s n = omega arith in e)

no_digit : (n : ℕ) (s : ℕ → ℕ) (w k : ℕ) → n ≤ k → w < product_below n s → ((j : ℕ) → n ≤ j → s j ≡ 0) → w / product_below k s % s k ≡ 0
no_digit n s w k le lt none = let e = none k le in rw e (mod-zero (w / product_below k s) ∙ quotient k le)
  where
    quotient : (k : ℕ) → n ≤ k → w / product_below k s ≡ 0
    quotient k le = elim (cases_lt n k) [
      | inl l ↦ above k l
      | inr g ↦ let e : k ≡ n = omega arith in rw e (div-eq_of_lt lt)
    ]
      where
        above : (k : ℕ) → n < k → w / product_below k s ≡ 0
        above zero l = absurd (omega arith)
        above (suc k) l = let e : s k ≡ 0 = none k (omega arith) in let z : product_below k s * s k ≡ 0 = rw e (omega arith) in rw z (div-zero w)

-- the sum over all points, where there are no coordinates from n on
pub over-numbers : (s : ℕ → ℕ) (n : ℕ) (f : (ℕ → ℕ) → ℕ) → ((j : ℕ) → n ≤ j → s j ≡ 0)
    → sum_over (λ j. true) s n f (λ j. 0) ≡ sum_below (product_below n s) (λ w. f (λ j. w / product_below j s % s j))
over-numbers s n f none =
    over-digits s n f (λ j. 0)
    ∙ sum_below-congr (product_below n s) (λ w. f (digits n s w (λ j. 0))) (λ w. f (λ j. w / product_below j s % s j))
    (λ w lt. ap f (fun_ext (λ k. elim (cases_lt k n) [
      | inl l ↦ digits-below n s w (λ j. 0) k l
      | inr g ↦ digits-above n s w (λ j. 0) k g ∙ sym (no_digit n s w k g lt none)
    ])))

-- the sum of the products of one term for each coordinate is the product of the sums
pub over-products : (s : ℕ → ℕ) (g : ℕ → ℕ → ℕ) (n : ℕ) (b : ℕ → ℕ) → sum_over (λ j. true) s n (λ u. product_below n (λ j. g j (u j))) b
    ≡ product_below n (λ j. sum_below (s j) (g j))
over-products s g zero b = refl
over-products s g (suc n) b =
    sum_below-congr (s n) (λ x. sum_over (λ j. true) s n (λ u. product_below n (λ j. g j (u j)) * g n (u n)) (set_at b n x))
    (λ x. product_below n (λ j. sum_below (s j) (g j)) * g n x)
    (λ x lt. over-mul-right (λ j. true) s n (λ u. product_below n (λ j. g j (u j))) (λ u. g n (u n)) (set_at b n x)
    (λ c i y l e. ap (g n) (set_at-other c i y n (omega arith)))
    ∙ ap (λ t. t * g n (set_at b n x n)) (over-products s g n (set_at b n x))
    ∙ ap (λ t. product_below n (λ j. sum_below (s j) (g j)) * g n t) (set_at-same b n x))
    ∙ sum_below-mul (s n) (product_below n (λ j. sum_below (s j) (g j))) (g n)

pub sum_below-ones : (n : ℕ) → sum_below n (λ i. 1) ≡ n
sum_below-ones zero = refl
sum_below-ones (suc n) = omega (arith, sum_below-ones n)

-- what is left after the first k digits, and after one more
pub rest_next : (s : ℕ → ℕ) (w k rest d : ℕ) → d ≡ s k → rest ≡ w / product_below k s → rest / d ≡ w / product_below (k + 1) s
rest_next s w k rest d i e = let f : k + 1 ≡ suc k = omega arith in rw (f, e, i) (div-div-eq-div-mul w (product_below k s) (s k))

pub product_below-le : (n : ℕ) (f g : ℕ → ℕ) → ((i : ℕ) → i < n → f i ≤ g i) → product_below n f ≤ product_below n g
product_below-le zero f g h = omega arith
product_below-le (suc n) f g h = bigger (product_below n f) (product_below n g) (f n) (g n) (product_below-le n f g (λ i lt. h i (omega arith)))
    (h n (omega arith))
  where
    bigger : (a b c d : ℕ) → a ≤ b → c ≤ d → a * c ≤ b * d
    bigger a b c d p q = grind arith

-- with positive factors the product grows with their number
pub product_below-grows : (n : ℕ) (f : ℕ → ℕ) (k : ℕ) → k ≤ n → ((i : ℕ) → i < n → 1 ≤ f i) → product_below k f ≤ product_below n f
product_below-grows zero f k le h = let e : k ≡ 0 = omega arith in rw e (omega arith)
product_below-grows (suc n) f k le h = elim (cases_lt n k) [
  | inl l ↦ let e : k ≡ suc n = omega arith in rw e (omega arith)
  | inr g ↦ longer (product_below k f) (product_below n f) (f n) (product_below-grows n f k g (λ i lt. h i (omega arith))) (h n (omega arith))
]
  where
    longer : (a b c : ℕ) → a ≤ b → 1 ≤ c → a ≤ b * c
    longer a b zero p q = absurd (omega arith)
    longer a b (suc c) p q = omega arith

pub term_le-sum : (n : ℕ) (f : ℕ → ℕ) (i : ℕ) → i < n → f i ≤ sum_below n f
term_le-sum zero f i lt = absurd (omega arith)
term_le-sum (suc n) f i lt = elim (cases_lt i n) [
  | inl l ↦ let h = term_le-sum n f i l in omega arith
  | inr g ↦ let e : i ≡ n = omega arith in rw e (omega arith)
]

pub sum_below-le : (n : ℕ) (f g : ℕ → ℕ) → ((i : ℕ) → i < n → f i ≤ g i) → sum_below n f ≤ sum_below n g
sum_below-le zero f g h = omega arith
sum_below-le (suc n) f g h = let p = sum_below-le n f g (λ i lt. h i (omega arith)) in let q = h n (omega arith) in omega arith

-- a sum grows with the number of its terms
pub sum_below-grows : (n : ℕ) (f : ℕ → ℕ) (k : ℕ) → k ≤ n → sum_below k f ≤ sum_below n f
sum_below-grows zero f k le = let e : k ≡ 0 = omega arith in rw e (omega arith)
sum_below-grows (suc n) f k le = elim (cases_lt n k) [
  | inl l ↦ let e : k ≡ suc n = omega arith in rw e (omega arith)
  | inr g ↦ let h = sum_below-grows n f k g in omega arith
]

pub product_next : (n : ℕ) (f : ℕ → ℕ) (a x : ℕ) → a ≡ product_below n f → x ≡ f n → a * x ≡ product_below (n + 1) f
product_next n f a x e i = let h : n + 1 ≡ suc n = omega arith in rw (h, e, i) refl

pub sum_next : (n : ℕ) (f : ℕ → ℕ) (a x : ℕ) → a ≡ sum_below n f → x ≡ f n → a + x ≡ sum_below (n + 1) f
sum_next n f a x e i = let h : n + 1 ≡ suc n = omega arith in rw (h, e, i) refl
