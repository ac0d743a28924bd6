-- Exact fractions are the true ones.
use Rattle.std.proofs.Common.{ℕ, zero, suc, ◌+◌, ◌*◌, ◌/◌, ◌≡◌, ◌≤◌, ◌↔◌, ◌&&◌, Bool, true, false, cond, eqb, leb, refl, sym, ap, ◌∙◌, subst, arith}
use Rattle.std.proofs.Common.{mul-pos, eqb-true, mul_comm, Result, Ok, Err}
use Rattle.std.proofs.Math.Nat.{div-eq_of_eq-mul_right, eq_of_mul-eq-mul_left}
use Rattle.fractions.proofs.FractionLaws.{equal_trans}
use Rattle.quantity.specs.declared.fault.QuantityFault.{QuantityFault}
use Rattle.quantity.specs.declared.fault.QuantityFault.TheVariants.{TooWide, ZeroBelow}
use Rattle.fractions.specs.Vocabulary.{Fraction, over, add, mul, div}
use Rattle.quantity.specs.Divisors.{gcd_of}
use Rattle.quantity.specs.Laws.Gcd.{gcd_left, gcd_right, gcd_positive}
use Rattle.quantity.specs.Kinds.{Pair, pair, most}
use Rattle.quantity.specs.Exacts.{lowest, product_of, exact, exact_add, exact_div, Equals}
use Rattle.quantity.specs.Laws.Interval.{ok_from, never}
use Rattle.quantity.specs.Lawful.{IsLawful}

pub positive_part : (g x : ℕ) → 1 ≤ g * x → 1 ≤ x
positive_part g zero le = absurd (let r : g * 0 ≡ 0 = omega arith in omega arith)
positive_part g (suc x) le = omega arith

-- the fraction in lowest terms is the fraction
lowest_is : (t l : ℕ) (f : Fraction) → 1 ≤ l → 1 ≤ f.bottom → t * f.bottom ≡ f.top * l → Equals (lowest t l) f
lowest_is t l f le lf e =
    plain (gcd_of t l) (t / gcd_of t l) (l / gcd_of t l) (gcd_positive t l le) (gcd_left t l) (gcd_right t l)
  where
    plain : (g x y : ℕ) → 1 ≤ g → g * x ≡ t → g * y ≡ l → Equals (pair x y) f
    plain g x y lg ex ey = record {
      left_bottom = positive_part g y (subst (λ n. 1 ≤ n) (sym ey) le);
      right_bottom = lf;
      products = eq_of_mul-eq-mul_left g lg (x * f.bottom) (f.top * y)
          ((let r : g * (x * f.bottom) ≡ (g * x) * f.bottom = omega arith in r) ∙ ap (λ n. n * f.bottom) ex ∙ e ∙ ap (λ n. f.top * n) (sym ey)
          ∙ (let r : f.top * (g * y) ≡ g * (f.top * y) = omega arith in r));
    }

-- the bottoms q = g * a and s = g * b, over g * a * b
sum_numbers : (g a b p r ft fb gt gb : ℕ) → p * fb ≡ ft * (g * a) → r * gb ≡ gt * (g * b)
    → (p * b + r * a) * (fb * gb) ≡ (ft * gb + gt * fb) * (g * a * b)
sum_numbers g a b p r ft fb gt gb h k =
    (let x : (p * b + r * a) * (fb * gb) ≡ (p * fb) * (b * gb) + (r * gb) * (a * fb) = omega arith in x)
    ∙ ap (λ n. n * (b * gb) + (r * gb) * (a * fb)) h ∙ ap (λ n. (ft * (g * a)) * (b * gb) + n * (a * fb)) k
    ∙ (let x : (ft * (g * a)) * (b * gb) + (gt * (g * b)) * (a * fb) ≡ (ft * gb + gt * fb) * (g * a * b) = omega arith in x)

-- the least common multiple, and what brings each bottom to it
pub record IsMultiple (q s l a b : ℕ) : Type 0 where
  pub bottom : q * s / gcd_of q s ≡ l
  pub left : l / q ≡ b
  pub right : l / s ≡ a
  pub positive : 1 ≤ l
  pub whole : l ≡ gcd_of q s * a * b
  pub first : q ≡ gcd_of q s * a
  pub second : s ≡ gcd_of q s * b

pub multiple_of : (q s : ℕ) → 1 ≤ q → 1 ≤ s → IsMultiple q s ((q / gcd_of q s) * s) (q / gcd_of q s) (s / gcd_of q s)
multiple_of q s lq ls = plain (gcd_of q s) (q / gcd_of q s) (s / gcd_of q s) refl (gcd_positive q s ls) (gcd_left q s) (gcd_right q s)
  where
    plain : (g a b : ℕ) → gcd_of q s ≡ g → 1 ≤ g → g * a ≡ q → g * b ≡ s → IsMultiple q s (a * s) a b
    plain g a b e lg ea eb = record {
      bottom = ap (λ n. q * s / n) e ∙ div-eq_of_eq-mul_right lg (ap (λ n. n * s) (sym ea) ∙ (let r : g * a * s ≡ g * (a * s) = omega arith in r));
      left = div-eq_of_eq-mul_right lq (ap (λ n. a * n) (sym eb) ∙ (let r : a * (g * b) ≡ (g * a) * b = omega arith in r) ∙ ap (λ n. n * b) ea);
      right = div-eq_of_eq-mul_right ls (mul_comm a s);
      positive = mul-pos (positive_part g a (subst (λ n. 1 ≤ n) (sym ea) lq)) ls;
      whole = ap (λ n. a * n) (sym eb) ∙ (let r : a * (g * b) ≡ g * a * b = omega arith in r) ∙ ap (λ n. n * a * b) (sym e);
      first = sym ea ∙ ap (λ n. n * a) (sym e);
      second = sym eb ∙ ap (λ n. n * b) (sym e);
    }

add_is : (a b c : Pair) (f g : Fraction) → Equals a f → Equals b g → exact_add a b ≡ Ok c → Equals c (add f g)
add_is a b c f g h k e =
    subst (λ x. Equals x (add f g)) (ok_from (leb l most && leb t most) (lowest t l) c TooWide e)
    (lowest_is t l (add f g) (subst (λ n. 1 ≤ n) (sym m.bottom) m.positive) (mul-pos h.right_bottom k.right_bottom) equal)
  where
    l : ℕ
    l = a.second * b.second / gcd_of a.second b.second

    t : ℕ
    t = a.first * (l / a.second) + b.first * (l / b.second)

    x : ℕ
    x = a.second / gcd_of a.second b.second

    y : ℕ
    y = b.second / gcd_of a.second b.second

    m : IsMultiple a.second b.second (x * b.second) x y
    m = multiple_of a.second b.second h.left_bottom k.left_bottom

    equal : t * (f.bottom * g.bottom) ≡ (f.top * g.bottom + g.top * f.bottom) * l
    equal =
        ap (λ n. (a.first * n + b.first * (l / b.second)) * (f.bottom * g.bottom)) (ap (λ n. n / a.second) m.bottom ∙ m.left)
        ∙ ap (λ n. (a.first * y + b.first * n) * (f.bottom * g.bottom)) (ap (λ n. n / b.second) m.bottom ∙ m.right)
        ∙ sum_numbers (gcd_of a.second b.second) x y a.first b.first f.top f.bottom g.top g.bottom
        (h.products ∙ ap (λ n. f.top * n) m.first) (k.products ∙ ap (λ n. g.top * n) m.second)
        ∙ ap (λ n. (f.top * g.bottom + g.top * f.bottom) * n) (sym m.whole ∙ sym m.bottom)

product_numbers : (a b p q r s ft fb gt gb : ℕ) → 1 ≤ a → 1 ≤ b → (a * p) * fb ≡ ft * (b * q) → (b * r) * gb ≡ gt * (a * s)
    → (p * r) * (fb * gb) ≡ (ft * gt) * (q * s)
product_numbers a b p q r s ft fb gt gb la lb h k =
    eq_of_mul-eq-mul_left (a * b) (mul-pos la lb) ((p * r) * (fb * gb)) ((ft * gt) * (q * s))
    ((let x : (a * b) * ((p * r) * (fb * gb)) ≡ ((a * p) * fb) * ((b * r) * gb) = omega arith in x)
    ∙ ap (λ n. n * ((b * r) * gb)) h ∙ ap (λ n. (ft * (b * q)) * n) k
    ∙ (let x : (ft * (b * q)) * (gt * (a * s)) ≡ (a * b) * ((ft * gt) * (q * s)) = omega arith in x))

product_is : (p q r s : ℕ) (c : Pair) (f g : Fraction) → Equals (pair p q) f → Equals (pair r s) g → product_of p q r s ≡ Ok c → Equals c (mul f g)
product_is p q r s c f g h k e =
    subst (λ x. Equals x (mul f g)) (ok_from (leb ((p / a) * (r / b)) most && leb ((q / b) * (s / a)) most) (pair ((p / a) * (r / b)) ((q / b) * (s / a)))
    c TooWide e)
    (record {
      left_bottom = mul-pos (positive_part b (q / b) (subst (λ n. 1 ≤ n) (sym (gcd_right r q)) h.left_bottom))
          (positive_part a (s / a) (subst (λ n. 1 ≤ n) (sym (gcd_right p s)) k.left_bottom));
      right_bottom = mul-pos h.right_bottom k.right_bottom;
      products = product_numbers a b (p / a) (q / b) (r / b) (s / a) f.top f.bottom g.top g.bottom (gcd_positive p s k.left_bottom)
          (gcd_positive r q h.left_bottom)
          (ap (λ n. n * f.bottom) (gcd_left p s) ∙ h.products ∙ ap (λ n. f.top * n) (sym (gcd_right r q)))
          (ap (λ n. n * g.bottom) (gcd_left r q) ∙ k.products ∙ ap (λ n. g.top * n) (sym (gcd_right p s)));
    })
  where
    a : ℕ
    a = gcd_of p s

    b : ℕ
    b = gcd_of r q

some_of : (b : ℕ) → eqb b 0 ≡ false → 1 ≤ b
some_of b e = grind (arith, e)

positive_other : (a b c d : ℕ) → a * b ≡ c * d → 1 ≤ c → 1 ≤ d → 1 ≤ a
positive_other zero b c d e lc ld = absurd (let r : 1 ≤ c * d = mul-pos lc ld in let z : 0 * b ≡ 0 = omega arith in omega arith)
positive_other (suc a) b c d e lc ld = omega arith

-- the inverse
turned : (r s : ℕ) (g : Fraction) → 1 ≤ r → Equals (pair r s) g → Equals (pair s r) (over g.bottom g.top)
turned r s g le k = record {
  left_bottom = le;
  right_bottom = positive_other g.top s r g.bottom (sym k.products) le k.right_bottom;
  products = (let x : s * g.top ≡ g.top * s = omega arith in x) ∙ sym k.products ∙ (let x : r * g.bottom ≡ g.bottom * r = omega arith in x);
}

div_tests : (t : Bool) (x : Result Pair QuantityFault) (c : Pair) → cond t (Err ZeroBelow) x ≡ Ok c → (t ≡ false) × (x ≡ Ok c)
div_tests true x c e = absurd (cc)
div_tests false x c e = (refl, e)

div_is : (a b c : Pair) (f g : Fraction) → Equals a f → Equals b g → exact_div a b ≡ Ok c → Equals c (div f g)
div_is a b c f g h k e =
    let r = div_tests (eqb b.first 0) (product_of a.first a.second b.second b.first) c e in
    product_is a.first a.second b.second b.first c f (over g.bottom g.top) h (turned b.first b.second g (some_of b.first r.0) k) r.1

zero_factor : (t b : ℕ) → 1 ≤ b → t * b ≡ 0 → t ≡ 0
zero_factor zero b le e = refl
zero_factor (suc t) b le e = absurd (let r : suc t * b ≡ b + t * b = omega arith in omega arith)

div_zero_is : (a b : Pair) (f g : Fraction) → Equals a f → Equals b g → (exact_div a b ≡ Err ZeroBelow) ↔ (g.top ≡ 0)
div_zero_is a b f g h k = (there, back)
  where
    tested : (t u : Bool) (x : Pair) → cond t (Err ZeroBelow) (cond u (Ok x) (Err TooWide)) ≡ Err ZeroBelow → t ≡ true
    tested true u x e = refl
    tested false true x e = absurd (cc)
    tested false false x e = absurd (cc)

    p : ℕ
    p = gcd_of a.first b.first

    q : ℕ
    q = gcd_of b.second a.second

    there : exact_div a b ≡ Err ZeroBelow → g.top ≡ 0
    there e =
        zero_factor g.top b.second k.left_bottom
        (sym k.products ∙ ap (λ n. n * g.bottom) (eqb-true b.first 0 (tested (eqb b.first 0)
        (leb ((a.first / p) * (b.second / q)) most && leb ((a.second / q) * (b.first / p)) most)
        (pair ((a.first / p) * (b.second / q)) ((a.second / q) * (b.first / p))) e)) ∙ omega arith)

    back : g.top ≡ 0 → exact_div a b ≡ Err ZeroBelow
    back e = ap (λ n. cond (eqb n 0) (Err ZeroBelow) (product_of a.first a.second b.second b.first))
        (zero_factor b.first g.bottom k.right_bottom (k.products ∙ ap (λ n. n * b.second) e ∙ omega arith))

pub exact_lawful : IsLawful exact Equals
exact_lawful = record {
  keeps = record {
    ratio = λ p q le. lowest_is p q (over p q) le le refl;
    add = add_is;
    mul = λ a b c f g h k e. product_is a.first a.second b.first b.second c f g h k e;
    div = div_is;
    equal = λ n f g h e. equal_trans (over n.first n.second) f g h e;
  };
  bottom = λ n f h. h.right_bottom;
  div_zero = div_zero_is;
  add_never = λ a b. let l = a.second * b.second / gcd_of a.second b.second in let t = a.first * (l / a.second) + b.first * (l / b.second) in
      never (leb l most && leb t most) (lowest t l);
  mul_never = λ a b.
      never (leb ((a.first / gcd_of a.first b.second) * (b.first / gcd_of b.first a.second)) most
      && leb ((a.second / gcd_of b.first a.second) * (b.second / gcd_of a.first b.second)) most)
      (pair ((a.first / gcd_of a.first b.second) * (b.first / gcd_of b.first a.second))
      ((a.second / gcd_of b.first a.second) * (b.second / gcd_of a.first b.second)));
}
