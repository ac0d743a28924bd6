-- Bounds enclose the true fraction, and tell where it is 0.
use Rattle.std.proofs.Common.{ℕ, zero, suc, ◌+◌, ◌*◌, ◌/◌, ◌≡◌, ◌≢◌, ◌≤◌, ◌↔◌, Bool, true, false, cond, eqb, leb, refl, ap, ◌∙◌, subst, arith}
use Rattle.std.proofs.Common.{mul-pos, eqb-true, Result, Ok, Err}
use Rattle.quantity.specs.declared.fault.QuantityFault.{QuantityFault}
use Rattle.quantity.specs.declared.fault.QuantityFault.TheVariants.{TooWide, TooFine, ZeroBelow}
use Rattle.fractions.specs.Vocabulary.{Fraction, over, IsEqual, add, mul, div}
use Rattle.quantity.specs.Kinds.{Pair, pair, most}
use Rattle.quantity.specs.Intervals.{unit, ceiling, bounds, bounds_ratio, bounds_add, bounds_mul, bounds_div, Encloses, Covers}
use Rattle.quantity.specs.Lawful.{Keeps, IsLawful}
use Rattle.quantity.specs.Laws.Rounding

pub ok_from : {A E : Type 0} (t : Bool) (x y : A) (e : E) → cond t (Ok x) (Err e) ≡ Ok y → x ≡ y
ok_from true x y e h = cc
ok_from false x y e h = absurd (cc)

pub never : {A : Type 0} (t : Bool) (x : A) → cond t (Ok x) (Err TooWide) ≢ Err ZeroBelow
never true x h = cc
never false x h = cc

-- ---- the fraction lies within the bounds
ratio_encloses : (p q : ℕ) → 1 ≤ q → Encloses (bounds_ratio p q) (over p q)
ratio_encloses p q le = record { bottom = le; lower = Rounding.down (p * unit) q; upper = Rounding.up (p * unit) q le }

-- the bounds of a sum, a product and a quotient
abbrev sum_pair : Pair → Pair → Pair
sum_pair a b = pair (a.first + b.first) (a.second + b.second)

abbrev product_pair : Pair → Pair → Pair
product_pair a b = pair (a.first * b.first / unit) (ceiling (a.second * b.second) unit)

abbrev quotient_pair : Pair → Pair → Pair
quotient_pair a b = pair (a.first * unit / b.second) (ceiling (a.second * unit) b.first)

sum_encloses : (a b : Pair) (f g : Fraction) → Encloses a f → Encloses b g → Encloses (sum_pair a b) (add f g)
sum_encloses a b f g h k = record {
  bottom = mul-pos h.bottom k.bottom;
  lower = Rounding.below_sum a.first b.first f.top f.bottom g.top g.bottom unit h.lower k.lower;
  upper = Rounding.above_sum a.second b.second f.top f.bottom g.top g.bottom unit h.upper k.upper;
}

product_encloses : (a b : Pair) (f g : Fraction) → Encloses a f → Encloses b g → Encloses (product_pair a b) (mul f g)
product_encloses a b f g h k = record {
  bottom = mul-pos h.bottom k.bottom;
  lower = Rounding.below_product a.first b.first f.top f.bottom g.top g.bottom unit (omega arith) h.lower k.lower;
  upper = Rounding.above_product a.second b.second f.top f.bottom g.top g.bottom unit (omega arith) h.upper k.upper;
}

positive_top : (b p q u : ℕ) → 1 ≤ b → 1 ≤ q → b * q ≤ p * u → 1 ≤ p
positive_top b zero q u lb lq le = absurd (let r : 1 ≤ b * q = mul-pos lb lq in let z : 0 * u ≡ 0 = omega arith in omega arith)
positive_top b (suc p) q u lb lq le = omega arith

positive_second : (b p q u : ℕ) → 1 ≤ u → 1 ≤ p → p * u ≤ b * q → 1 ≤ b
positive_second zero p q u lu lp le = absurd (let r : 1 ≤ p * u = mul-pos lp lu in let z : 0 * q ≡ 0 = omega arith in omega arith)
positive_second (suc b) p q u lu lp le = omega arith

quotient_encloses : (a b : Pair) (f g : Fraction) → Encloses a f → Encloses b g → 1 ≤ b.first → Encloses (quotient_pair a b) (div f g)
quotient_encloses a b f g h k some =
    let divisor : 1 ≤ g.top = positive_top b.first g.top g.bottom unit some k.bottom k.lower in
    record {
      bottom = mul-pos h.bottom divisor;
      lower = Rounding.below_quotient a.first b.second f.top f.bottom g.top g.bottom unit
          (positive_second b.second g.top g.bottom unit (omega arith) divisor k.upper) (omega arith) h.lower k.upper;
      upper = Rounding.above_quotient a.second b.first f.top f.bottom g.top g.bottom unit some (omega arith) h.upper k.lower;
    }

equal_encloses : (n : Pair) (f g : Fraction) → Encloses n f → IsEqual f g → Encloses n g
equal_encloses n f g h e = record {
  bottom = e.right_bottom;
  lower = Rounding.below_equal n.first f.top f.bottom g.top g.bottom unit h.bottom h.lower e.products;
  upper = Rounding.above_equal n.second f.top f.bottom g.top g.bottom unit h.bottom h.upper e.products;
}

-- ---- where there is a result, it is that of the bounds
sum_made : (a b c : Pair) → bounds_add a b ≡ Ok c → sum_pair a b ≡ c
sum_made a b c e = ok_from (leb (a.second + b.second) most) (sum_pair a b) c TooWide e

product_made : (a b c : Pair) → bounds_mul a b ≡ Ok c → product_pair a b ≡ c
product_made a b c e = ok_from (leb (a.second * b.second) most) (product_pair a b) c TooWide e

-- the three tests of a quotient
abbrev tests : (s t u : Bool) (x : Pair) → Result Pair QuantityFault
tests s t u x = cond s (Err ZeroBelow) (cond t (Err TooFine) (cond u (Ok x) (Err TooWide)))

ok_tests : (s t u : Bool) (x y : Pair) → tests s t u x ≡ Ok y → (s ≡ false) × (t ≡ false) × (x ≡ y)
ok_tests true t u x y e = absurd (cc)
ok_tests false true u x y e = absurd (cc)
ok_tests false false true x y e = (refl, refl, cc)
ok_tests false false false x y e = absurd (cc)

zero_tests : (s t u : Bool) (x : Pair) → tests s t u x ≡ Err ZeroBelow → s ≡ true
zero_tests true t u x e = refl
zero_tests false true u x e = absurd (cc)
zero_tests false false true x e = absurd (cc)
zero_tests false false false x e = absurd (cc)

some_of : (b : ℕ) → eqb b 0 ≡ false → 1 ≤ b
some_of b e = grind (arith, e)

quotient_made : (a b c : Pair) → bounds_div a b ≡ Ok c → (1 ≤ b.first) × (quotient_pair a b ≡ c)
quotient_made a b c e =
    let r = ok_tests (eqb b.second 0) (eqb b.first 0) (leb (a.second * unit) most) (quotient_pair a b) c e in
    (some_of b.first r.1, r.2)

pub bounds_keep : Keeps bounds Encloses
bounds_keep = record {
  ratio = ratio_encloses;
  add = λ a b c f g h k e. subst (λ x. Encloses x (add f g)) (sum_made a b c e) (sum_encloses a b f g h k);
  mul = λ a b c f g h k e. subst (λ x. Encloses x (mul f g)) (product_made a b c e) (product_encloses a b f g h k);
  div = λ a b c f g h k e. let r = quotient_made a b c e in subst (λ x. Encloses x (div f g)) r.1 (quotient_encloses a b f g h k r.0);
  equal = equal_encloses;
}

-- ---- zeros
-- a product or a quotient of naturals is 0 only where a factor is
positive_factor : (t b : ℕ) → 1 ≤ b → t * b ≡ 0 → t ≡ 0
positive_factor zero b le e = refl
positive_factor (suc t) b le e = absurd (let r : suc t * b ≡ b + t * b = omega arith in omega arith)

none_of_product : (t p a b u : ℕ) → 1 ≤ u → (t ≡ 0 → a ≡ 0) → (p ≡ 0 → b ≡ 0) → t * p ≡ 0 → ceiling (a * b) u ≡ 0
none_of_product zero p a b u le h k e = ap (λ x. ceiling (x * b) u) (h refl) ∙ ap (λ x. ceiling x u) (let r : 0 * b ≡ 0 = omega arith in r)
    ∙ Rounding.up_zero u le
none_of_product (suc t) zero a b u le h k e = ap (λ x. ceiling (a * x) u) (k refl) ∙ ap (λ x. ceiling x u) (let r : a * 0 ≡ 0 = omega arith in r)
    ∙ Rounding.up_zero u le
none_of_product (suc t) (suc p) a b u le h k e = absurd (let r : suc t * suc p ≡ suc p + t * suc p = omega arith in omega arith)

none_of_sum : (t p s q a b : ℕ) → 1 ≤ s → 1 ≤ q → (t ≡ 0 → a ≡ 0) → (p ≡ 0 → b ≡ 0) → t * q + p * s ≡ 0 → a + b ≡ 0
none_of_sum t p s q a b ls lq h k e =
    let x = h (positive_factor t q lq (omega arith)) in let y = k (positive_factor p s ls (omega arith)) in omega (arith, x, y)

none_of_quotient : (t q a b u : ℕ) → 1 ≤ q → 1 ≤ b → (t ≡ 0 → a ≡ 0) → t * q ≡ 0 → ceiling (a * u) b ≡ 0
none_of_quotient t q a b u lq lb h e = ap (λ x. ceiling (x * u) b) (h (positive_factor t q lq e))
    ∙ ap (λ x. ceiling x b) (let r : 0 * u ≡ 0 = omega arith in r) ∙ Rounding.up_zero b lb

zero_below : (b p q u : ℕ) → 1 ≤ u → b ≡ 0 → p * u ≤ b * q → p ≡ 0
zero_below b p q u le e h = positive_factor p u le (let r : b * q ≡ 0 = ap (λ z. z * q) e ∙ omega arith in omega arith)

-- bounds that enclose a fraction cover it, if the upper one is 0 where the fraction is
covers_from : (n : Pair) (f : Fraction) → Encloses n f → (f.top ≡ 0 → n.second ≡ 0) → Covers n f
covers_from n f h none = record { within = h; zero = (λ e. zero_below n.second f.top f.bottom unit (omega arith) e h.upper, none) }

none : (n : Pair) (f : Fraction) → Covers n f → f.top ≡ 0 → n.second ≡ 0
none n f h e = h.zero.1 e

div_zero_covers : (a b : Pair) (f g : Fraction) → Covers a f → Covers b g → (bounds_div a b ≡ Err ZeroBelow) ↔ (g.top ≡ 0)
div_zero_covers a b f g h k = (there, back)
  where
    there : bounds_div a b ≡ Err ZeroBelow → g.top ≡ 0
    there e = k.zero.0 (eqb-true b.second 0 (zero_tests (eqb b.second 0) (eqb b.first 0) (leb (a.second * unit) most) (quotient_pair a b) e))

    back : g.top ≡ 0 → bounds_div a b ≡ Err ZeroBelow
    back e = ap (λ s. tests s (eqb b.first 0) (leb (a.second * unit) most) (quotient_pair a b)) (ap (λ n. eqb n 0) (k.zero.1 e))

add_covers : (a b c : Pair) (f g : Fraction) → Covers a f → Covers b g → bounds_add a b ≡ Ok c → Covers c (add f g)
add_covers a b c f g h k e =
    subst (λ x. Covers x (add f g)) (sum_made a b c e)
    (covers_from (sum_pair a b) (add f g) (sum_encloses a b f g h.within k.within)
    (none_of_sum f.top g.top f.bottom g.bottom a.second b.second h.within.bottom k.within.bottom (none a f h) (none b g k)))

mul_covers : (a b c : Pair) (f g : Fraction) → Covers a f → Covers b g → bounds_mul a b ≡ Ok c → Covers c (mul f g)
mul_covers a b c f g h k e =
    subst (λ x. Covers x (mul f g)) (product_made a b c e)
    (covers_from (product_pair a b) (mul f g) (product_encloses a b f g h.within k.within)
    (none_of_product f.top g.top a.second b.second unit (omega arith) (none a f h) (none b g k)))

div_covers : (a b c : Pair) (f g : Fraction) → Covers a f → Covers b g → bounds_div a b ≡ Ok c → Covers c (div f g)
div_covers a b c f g h k e =
    let r = quotient_made a b c e in
    subst (λ x. Covers x (div f g)) r.1
    (covers_from (quotient_pair a b) (div f g) (quotient_encloses a b f g h.within k.within r.0)
    (none_of_quotient f.top g.bottom a.second b.first unit k.within.bottom r.0 (none a f h)))

equal_covers : (n : Pair) (f g : Fraction) → Covers n f → IsEqual f g → Covers n g
equal_covers n f g h e =
    covers_from n g (equal_encloses n f g h.within e)
    (λ z. none n f h (positive_factor f.top g.bottom e.right_bottom (e.products ∙ ap (λ x. x * f.bottom) z ∙ omega arith)))

pub bounds_lawful : IsLawful bounds Covers
bounds_lawful = record {
  keeps = record {
    ratio = λ p q le. covers_from (bounds_ratio p q) (over p q) (ratio_encloses p q le) (λ e. ap (λ x. ceiling (x * unit) q) e ∙ Rounding.up_zero q le);
    add = add_covers;
    mul = mul_covers;
    div = div_covers;
    equal = equal_covers;
  };
  bottom = λ n f h. h.within.bottom;
  div_zero = div_zero_covers;
  add_never = λ a b. never (leb (a.second + b.second) most) (sum_pair a b);
  mul_never = λ a b. never (leb (a.second * b.second) most) (product_pair a b);
}
