-- Laws of fractions of natural numbers.
use Rattle.std.proofs.Common.{ℕ, zero, suc, ◌+◌, ◌*◌, ◌≡◌, ◌<◌, ◌≤◌, refl, sym, ap, ap₂, ◌∙◌, arith, mul-pos}
use Rattle.std.proofs.Math.Nat.{eq_of_mul-eq-mul_left}
use Rattle.fractions.specs.Fractions.{Fraction, over, IsEqual, IsPositive, add, mul, div, add_below}

-- ---- equality

-- a fraction that isn't over 0 is equal to itself
pub equal_refl : (f : Fraction) → 1 ≤ f.bottom → IsEqual f f
equal_refl f le = record { left_bottom = le; right_bottom = le; products = refl }

-- one number over one bottom
pub equal_same : (f g : Fraction) → 1 ≤ f.bottom → f.top ≡ g.top → f.bottom ≡ g.bottom → IsEqual f g
equal_same f g le e h = record { left_bottom = le; right_bottom = (omega arith); products = ap₂ (λ a b. a * b) e (sym h) }

-- equality holds in either direction
pub equal_sym : (f g : Fraction) → IsEqual f g → IsEqual g f
equal_sym f g e = record { left_bottom = e.right_bottom; right_bottom = e.left_bottom; products = sym e.products }

trans_numbers : (a b c d e f : ℕ) → a * d ≡ c * b → c * f ≡ e * d → d * (a * f) ≡ d * (e * b)
trans_numbers a b c d e f p q =
    (let r : d * (a * f) ≡ (a * d) * f = omega arith in r) ∙ ap (λ n. n * f) p
    ∙ (let r : (c * b) * f ≡ (c * f) * b = omega arith in r) ∙ ap (λ n. n * b) q
    ∙ (let r : (e * d) * b ≡ d * (e * b) = omega arith in r)

-- what is equal to an equal fraction is equal
pub equal_trans : (f g h : Fraction) → IsEqual f g → IsEqual g h → IsEqual f h
equal_trans f g h p q = record {
  left_bottom = p.left_bottom;
  right_bottom = q.right_bottom;
  products = eq_of_mul-eq-mul_left g.bottom p.right_bottom (f.top * h.bottom) (h.top * f.bottom)
      (trans_numbers f.top f.bottom g.top g.bottom h.top h.bottom p.products q.products);
}

pub nothing_equals_over_zero : (p : ℕ) (f : Fraction) → IsEqual (over p 0) f → ⊥
nothing_equals_over_zero p f e = let h = e.left_bottom in absurd (omega (arith, h))

pub equal_wholes : (p q : ℕ) → IsEqual (over p 1) (over q 1) → p ≡ q
equal_wholes p q e = let h = e.products in omega (arith, h)

pub equal_scaled : (k p q : ℕ) → 1 ≤ k → 1 ≤ q → IsEqual (over (k * p) (k * q)) (over p q)
equal_scaled k p q lk lq = record { left_bottom = mul-pos lk lq; right_bottom = lq; products = omega arith }

-- ---- sums, products and quotients of equal fractions
mul_numbers : (a b c d a' b' c' d' : ℕ) → a * b' ≡ a' * b → c * d' ≡ c' * d → (a * c) * (b' * d') ≡ (a' * c') * (b * d)
mul_numbers a b c d a' b' c' d' p q =
    (let r : (a * c) * (b' * d') ≡ (a * b') * (c * d') = omega arith in r) ∙ ap (λ n. n * (c * d')) p ∙ ap (λ n. (a' * b) * n) q
    ∙ (let r : (a' * b) * (c' * d) ≡ (a' * c') * (b * d) = omega arith in r)

-- equal factors have equal products
pub mul_equal : (f f' g g' : Fraction) → IsEqual f f' → IsEqual g g' → IsEqual (mul f g) (mul f' g')
mul_equal f f' g g' p q = record {
  left_bottom = mul-pos p.left_bottom q.left_bottom;
  right_bottom = mul-pos p.right_bottom q.right_bottom;
  products = mul_numbers f.top f.bottom g.top g.bottom f'.top f'.bottom g'.top g'.bottom p.products q.products;
}

div_numbers : (a b c d a' b' c' d' : ℕ) → a * b' ≡ a' * b → c * d' ≡ c' * d → (a * d) * (b' * c') ≡ (a' * d') * (b * c)
div_numbers a b c d a' b' c' d' p q =
    (let r : (a * d) * (b' * c') ≡ (a * b') * (c' * d) = omega arith in r) ∙ ap (λ n. n * (c' * d)) p ∙ ap (λ n. (a' * b) * n) (sym q)
    ∙ (let r : (a' * b) * (c * d') ≡ (a' * d') * (b * c) = omega arith in r)

positive_left : (a b c d : ℕ) → a * b ≡ c * d → 1 ≤ c → 1 ≤ d → 1 ≤ a
positive_left zero b c d e lc ld = absurd (let r : 1 ≤ c * d = mul-pos lc ld in let z : 0 * b ≡ 0 = omega arith in omega arith)
positive_left (suc a) b c d e lc ld = omega arith

-- what is equal to a number above 0 is above 0
pub equal_positive : (f g : Fraction) → 1 ≤ f.top → IsEqual f g → 1 ≤ g.top
equal_positive f g le e = positive_left g.top f.bottom f.top g.bottom (sym e.products) le e.right_bottom

-- equal fractions, divided by equal ones that aren't 0, are equal
pub div_equal : (f f' g g' : Fraction) → 1 ≤ g.top → IsEqual f f' → IsEqual g g' → IsEqual (div f g) (div f' g')
div_equal f f' g g' le p q = record {
  left_bottom = mul-pos p.left_bottom le;
  right_bottom = mul-pos p.right_bottom (equal_positive g g' le q);
  products = div_numbers f.top f.bottom g.top g.bottom f'.top f'.bottom g'.top g'.bottom p.products q.products;
}

add_numbers : (a b c d a' b' c' d' : ℕ) → a * b' ≡ a' * b → c * d' ≡ c' * d → (a * d + c * b) * (b' * d') ≡ (a' * d' + c' * b') * (b * d)
add_numbers a b c d a' b' c' d' p q =
    (let r : (a * d + c * b) * (b' * d') ≡ (a * b') * (d * d') + (c * d') * (b * b') = omega arith in r) ∙ ap (λ n. n * (d * d') + (c * d') * (b * b')) p
    ∙ ap (λ n. (a' * b) * (d * d') + n * (b * b')) q ∙ (let r : (a' * b) * (d * d') + (c' * d) * (b * b') ≡ (a' * d' + c' * b') * (b * d) = omega arith in r)

pub add_equal : (f f' g g' : Fraction) → IsEqual f f' → IsEqual g g' → IsEqual (add f g) (add f' g')
add_equal f f' g g' p q = record {
  left_bottom = mul-pos p.left_bottom q.left_bottom;
  right_bottom = mul-pos p.right_bottom q.right_bottom;
  products = add_numbers f.top f.bottom g.top g.bottom f'.top f'.bottom g'.top g'.bottom p.products q.products;
}

-- ---- numbers above 0
pub mul_positive : (f g : Fraction) → IsPositive f → IsPositive g → IsPositive (mul f g)
mul_positive f g p q = record { top = mul-pos p.top q.top; bottom = mul-pos p.bottom q.bottom }

-- a number above 0, divided by one above 0, is above 0
pub div_positive : (f g : Fraction) → IsPositive f → IsPositive g → IsPositive (div f g)
div_positive f g p q = record { top = mul-pos p.top q.bottom; bottom = mul-pos p.bottom q.top }

pub add_positive : (f g : Fraction) → IsPositive f → IsPositive g → IsPositive (add f g)
add_positive f g p q = record { top = (let r : 1 ≤ f.top * g.bottom = mul-pos p.top q.bottom in omega arith); bottom = mul-pos p.bottom q.bottom }

-- ---- as pairs of numbers
pub add_comm : (f g : Fraction) → add f g ≡ add g f
add_comm f g = ap₂ over (let r : f.top * g.bottom + g.top * f.bottom ≡ g.top * f.bottom + f.top * g.bottom = omega arith in r)
    (let r : f.bottom * g.bottom ≡ g.bottom * f.bottom = omega arith in r)

pub add_assoc : (f g h : Fraction) → add f (add g h) ≡ add (add f g) h
add_assoc f g h =
    ap₂ over
    (let r : f.top * (g.bottom * h.bottom) + (g.top * h.bottom + h.top * g.bottom) * f.bottom ≡ (f.top * g.bottom + g.top * f.bottom) * h.bottom
    + h.top * (f.bottom * g.bottom) = omega arith in r)
    (let r : f.bottom * (g.bottom * h.bottom) ≡ (f.bottom * g.bottom) * h.bottom = omega arith in r)

pub add-zero : (f : Fraction) → add f (over 0 1) ≡ f
add-zero f = ap₂ over (let r : f.top * 1 + 0 * f.bottom ≡ f.top = omega arith in r) (let r : f.bottom * 1 ≡ f.bottom = omega arith in r)

pub mul_comm : (f g : Fraction) → mul f g ≡ mul g f
mul_comm f g = ap₂ over (let r : f.top * g.top ≡ g.top * f.top = omega arith in r) (let r : f.bottom * g.bottom ≡ g.bottom * f.bottom = omega arith in r)

-- f * (g * h) is (f * g) * h, as a pair of numbers
pub mul_assoc : (f g h : Fraction) → mul f (mul g h) ≡ mul (mul f g) h
mul_assoc f g h = ap₂ over (let r : f.top * (g.top * h.top) ≡ (f.top * g.top) * h.top = omega arith in r)
    (let r : f.bottom * (g.bottom * h.bottom) ≡ (f.bottom * g.bottom) * h.bottom = omega arith in r)

-- f * 1 / 1 is f, as a pair of numbers
pub mul-one : (f : Fraction) → mul f (over 1 1) ≡ f
mul-one f = ap₂ over (let r : f.top * 1 ≡ f.top = omega arith in r) (let r : f.bottom * 1 ≡ f.bottom = omega arith in r)

-- ---- sums of products, and quotients undone
pub mul_add : (f g h : Fraction) → 1 ≤ f.bottom → 1 ≤ g.bottom → 1 ≤ h.bottom → IsEqual (mul f (add g h)) (add (mul f g) (mul f h))
mul_add f g h lf lg lh = record {
  left_bottom = mul-pos lf (mul-pos lg lh);
  right_bottom = mul-pos (mul-pos lf lg) (mul-pos lf lh);
  products = omega arith;
}

pub mul_div : (f g : Fraction) → 1 ≤ f.bottom → IsPositive g → IsEqual (mul (div f g) g) f
mul_div f g le p = record {
  left_bottom = mul-pos (mul-pos le p.top) p.bottom;
  right_bottom = le;
  products = omega arith;
}

-- ---- sums of several fractions
pub add_below_equal : (k : ℕ) (f g : ℕ → Fraction) → ((i : ℕ) → i < k → IsEqual (f i) (g i)) → IsEqual (add_below k f) (add_below k g)
add_below_equal zero f g h = equal_refl (over 0 1) (omega arith)
add_below_equal (suc k) f g h = add_equal (add_below k f) (add_below k g) (f k) (g k) (add_below_equal k f g (λ i lt. h i (omega arith))) (h k (omega arith))

whole_numbers : (p q r s t n d : ℕ) → p * d ≡ t * q → r * d ≡ n * s → (p * s + r * q) * d ≡ (t + n) * (q * s)
whole_numbers p q r s t n d e f =
    (let a : (p * s + r * q) * d ≡ (p * d) * s + (r * d) * q = omega arith in a) ∙ ap (λ x. x * s + (r * d) * q) e ∙ ap (λ x. (t * q) * s + x * q) f
    ∙ (let a : (t * q) * s + (n * s) * q ≡ (t + n) * (q * s) = omega arith in a)

-- fractions over one bottom are summed by their tops: `total` sums the tops n
pub add_below_whole : (k d : ℕ) (f : ℕ → Fraction) (n total : ℕ → ℕ) → 1 ≤ d → total 0 ≡ 0 → ((i : ℕ) → total (suc i) ≡ total i + n i)
    → ((i : ℕ) → i < k → IsEqual (f i) (over (n i) d)) → IsEqual (add_below k f) (over (total k) d)
add_below_whole zero d f n total le none more h = record {
  left_bottom = omega arith;
  right_bottom = le;
  products = (let r : total 0 * 1 ≡ 0 = omega (arith, none) in omega (arith, r));
}
add_below_whole (suc k) d f n total le none more h =
    let a = add_below k f in
    let before = add_below_whole k d f n total le none more (λ i lt. h i (omega arith)) in
    let last = h k (omega arith) in
    record {
      left_bottom = mul-pos before.left_bottom last.left_bottom;
      right_bottom = le;
      products = whole_numbers a.top a.bottom (f k).top (f k).bottom (total k) (n k) d before.products last.products
          ∙ ap (λ t. t * (a.bottom * (f k).bottom)) (sym (more k));
    }

-- the sum of one or more numbers above 0 is above 0
pub add_below_positive : (k : ℕ) (f : ℕ → Fraction) → 1 ≤ k → ((i : ℕ) → i < k → IsPositive (f i)) → IsPositive (add_below k f)
add_below_positive zero f le h = absurd (omega arith)
add_below_positive (suc zero) f le h = record {
  top = (let t = (h 0 (omega arith)).top in omega (arith, t));
  bottom = (let t = (h 0 (omega arith)).bottom in omega (arith, t));
}
add_below_positive (suc (suc k)) f le h = add_positive (add_below (suc k) f) (f (suc k))
    (add_below_positive (suc k) f (omega arith) (λ i lt. h i (omega arith))) (h (suc k) (omega arith))
