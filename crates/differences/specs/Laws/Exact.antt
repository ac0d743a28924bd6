-- Exact differences are the true ones.
use Rattle.std.proofs.Common.{ℕ, zero, suc, ◌+◌, ◌*◌, ◌/◌, ◌-◌, ◌≡◌, ◌<◌, ◌≤◌, ◌&&◌, Bool, true, false, cond, eqb, leb, refl, sym, ap, ap₂, ◌∙◌, subst, arith, mul-pos}
use Rattle.std.proofs.Common.{le_trans, le_of_eq, mul-le-mul_right, Option, Some, None, Result, Ok, Err}
use Rattle.fractions.specs.Vocabulary.{Fraction, over, IsEqual}
use Rattle.quantity.specs.declared.fault.QuantityFault.{QuantityFault}
use Rattle.quantity.specs.declared.fault.QuantityFault.TheVariants.{TooWide, ZeroBelow}
use Rattle.quantity.specs.Divisors.{gcd_of, lcm_of}
use Rattle.quantity.specs.Kinds.{Pair}
use Rattle.quantity.specs.Laws.Exact.{IsMultiple, multiple_of, exact_lawful}
use Rattle.quantity.specs.Vocabulary.{Equals, lowest, most}
use Rattle.quantity.specs.Exacts.{exact, product_of}
use Rattle.differences.specs.Kinds.{exact_minus}
use Rattle.differences.specs.Lawful.{IsLawfulDifference}
use Rattle.differences.specs.Laws.Taken.{sub_times, scaled, not_less}
use Rattle.differences.specs.Minus.{IsAtMost, minus}

-- the tests of a difference
abbrev tested : (s t : Bool) → Pair → Result (Option Pair) QuantityFault
tested s t x = cond s (cond t (Ok (Some x)) (Ok None)) (Err TooWide)

left_is : (s t : Bool) (x y : Pair) → tested s t x ≡ Ok (Some y) → x ≡ y
left_is true true x y e = cc
left_is true false x y e = absurd (cc)
left_is false t x y e = absurd (cc)

none_is : (s t : Bool) (x : Pair) → tested s t x ≡ Ok None → t ≡ false
none_is true true x e = absurd (cc)
none_is true false x e = refl
none_is false t x e = absurd (cc)

wide_is : (s t : Bool) (x : Pair) (fault : QuantityFault) → tested s t x ≡ Err fault → fault ≡ TooWide
wide_is true true x fault e = absurd (cc)
wide_is true false x fault e = absurd (cc)
wide_is false t x fault e = cc

-- the tops over the common bottom: of p / q with q = g * a, over g * a * b
one_top : (g a b p ft fb gb : ℕ) → p * fb ≡ ft * (g * a) → p * b * (fb * gb) ≡ ft * gb * (g * a * b)
one_top g a b p ft fb gb h =
    (let r : p * b * (fb * gb) ≡ (p * fb) * (b * gb) = omega arith in r) ∙ ap (λ n. n * (b * gb)) h
    ∙ (let r : (ft * (g * a)) * (b * gb) ≡ ft * gb * (g * a * b) = omega arith in r)

other_top : (g a b r gt gb fb : ℕ) → r * gb ≡ gt * (g * b) → r * a * (fb * gb) ≡ gt * fb * (g * a * b)
other_top g a b r gt gb fb h =
    (let x : r * a * (fb * gb) ≡ (r * gb) * (a * fb) = omega arith in x) ∙ ap (λ n. n * (a * fb)) h
    ∙ (let x : (gt * (g * b)) * (a * fb) ≡ gt * fb * (g * a * b) = omega arith in x)

module _ (a b : Pair) (f g : Fraction) (h : Equals a f) (k : Equals b g) where
  abbrev l : ℕ
  l = lcm_of a.second b.second

  abbrev t : ℕ
  t = a.first * (l / a.second)

  abbrev u : ℕ
  u = b.first * (l / b.second)

  abbrev d : ℕ
  d = gcd_of a.second b.second

  abbrev x : ℕ
  x = a.second / d

  abbrev y : ℕ
  y = b.second / d

  m : IsMultiple a.second b.second (x * b.second) x y
  m = multiple_of a.second b.second h.left_bottom k.left_bottom

  positive : 1 ≤ l
  positive = subst (λ n. 1 ≤ n) (sym m.bottom) m.positive

  whole : d * x * y ≡ l
  whole = sym m.whole ∙ sym m.bottom

  first_top : t * (f.bottom * g.bottom) ≡ f.top * g.bottom * l
  first_top =
      ap (λ n. a.first * n * (f.bottom * g.bottom)) (ap (λ n. n / a.second) m.bottom ∙ m.left)
      ∙ one_top d x y a.first f.top f.bottom g.bottom (h.products ∙ ap (λ n. f.top * n) m.first) ∙ ap (λ n. f.top * g.bottom * n) whole

  second_top : u * (f.bottom * g.bottom) ≡ g.top * f.bottom * l
  second_top =
      ap (λ n. b.first * n * (f.bottom * g.bottom)) (ap (λ n. n / b.second) m.bottom ∙ m.right)
      ∙ other_top d x y b.first g.top g.bottom f.bottom (k.products ∙ ap (λ n. g.top * n) m.second) ∙ ap (λ n. g.top * f.bottom * n) whole

  same : IsEqual (over (t - u) l) (minus f g)
  same = record {
    left_bottom = positive;
    right_bottom = mul-pos h.right_bottom k.right_bottom;
    products = sub_times t u (f.bottom * g.bottom) ∙ ap₂ (λ i j. i - j) first_top second_top
        ∙ sym (sub_times (f.top * g.bottom) (g.top * f.bottom) l);
  }

  pub difference_is : (c : Pair) → exact_minus a b ≡ Ok (Some c) → Equals c (minus f g)
  difference_is c e =
      subst (λ n. Equals n (minus f g)) (left_is (leb l most && (leb t most && leb u most)) (leb u t) (lowest (t - u) l) c e)
      (exact_lawful.keeps.equal (lowest (t - u) l) (over (t - u) l) (minus f g) (exact_lawful.keeps.ratio (t - u) l positive) same)

  less_of : (i j : ℕ) → leb i j ≡ false → j < i
  less_of i j e = grind (arith, e)

  pub none_below : exact_minus a b ≡ Ok None → IsAtMost g f → ⊥
  none_below e at_most =
      not_less t u (less_of u t (none_is (leb l most && (leb t most && leb u most)) (leb u t) (lowest (t - u) l) e))
      (scaled u t (f.bottom * g.bottom) (mul-pos h.right_bottom k.right_bottom)
      (le_trans (le_of_eq second_top) (le_trans (mul-le-mul_right l at_most) (le_of_eq (sym first_top)))))

-- a divisor that is 0 has no quotient
not_zero : (p b q s : ℕ) (r : Result Pair QuantityFault) (c : Pair) → 1 ≤ q → b * q ≡ p * s → cond (eqb b 0) (Err ZeroBelow) r ≡ Ok c → 1 ≤ p
not_zero zero b q s r c le h e = absurd (
    let k : Err ZeroBelow ≡ Ok c = ap (λ n. cond (eqb n 0) (Err ZeroBelow) r) (sym (no_factor b q le (h ∙ omega arith))) ∙ e in cc)
  where
    no_factor : (b q : ℕ) → 1 ≤ q → b * q ≡ 0 → b ≡ 0
    no_factor zero q le e = refl
    no_factor (suc b) q le e = absurd (let r : suc b * q ≡ q + b * q = omega arith in omega arith)
not_zero (suc p) b q s r c le h e = omega arith

pub exact_difference_lawful : IsLawfulDifference exact exact_minus Equals Equals
exact_difference_lawful = record {
  difference = λ a b c f g h k at_most e. difference_is a b f g h k c e;
  below = λ a b f g h k e at_most. none_below a b f g h k e at_most;
  div = exact_lawful.keeps.div;
  divisor = λ a b c g k e. not_zero g.top b.first g.bottom b.second (product_of a.first a.second b.second b.first) c k.right_bottom k.products e;
  weaker = λ n f h. h;
  equal = exact_lawful.keeps.equal;
  wide = λ a b fault e.
      let l = lcm_of a.second b.second in let t = a.first * (l / a.second) in let u = b.first * (l / b.second) in
      wide_is (leb l most && (leb t most && leb u most)) (leb u t) (lowest (t - u) l) fault e;
}
