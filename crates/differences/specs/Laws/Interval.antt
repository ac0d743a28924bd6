-- Bounds of a difference enclose it.
use Rattle.std.proofs.Common.{ℕ, zero, suc, ◌*◌, ◌/◌, ◌-◌, ◌≡◌, ◌<◌, ◌≤◌, Bool, true, false, cond, eqb, leb, refl, sym, ap, ◌∙◌, subst, arith, mul-pos, mul-le-mul_right}
use Rattle.std.proofs.Common.{le_trans, le_of_eq, Option, Some, None, Result, Ok, Err}
use Rattle.fractions.specs.Vocabulary.{Fraction}
use Rattle.quantity.specs.declared.fault.QuantityFault.{QuantityFault}
use Rattle.quantity.specs.declared.fault.QuantityFault.TheVariants.{TooWide, TooFine, ZeroBelow}
use Rattle.quantity.specs.Intervals.{unit, ceiling, bounds, Encloses, Covers}
use Rattle.quantity.specs.Kinds.{Pair, pair, most}
use Rattle.quantity.specs.Laws.Interval.{bounds_keep}
use Rattle.differences.specs.Kinds.{bounds_minus}
use Rattle.differences.specs.Lawful.{IsLawfulDifference}
use Rattle.differences.specs.Laws.Taken.{sub_times, sub_le, scaled, not_less}
use Rattle.differences.specs.Minus.{IsAtMost, minus}

-- the test of a difference
abbrev tested : Bool → Pair → Result (Option Pair) QuantityFault
tested t x = cond t (Ok (Some x)) (Ok None)

left_is : (t : Bool) (x y : Pair) → tested t x ≡ Ok (Some y) → x ≡ y
left_is true x y e = cc
left_is false x y e = absurd (cc)

none_is : (t : Bool) (x : Pair) → tested t x ≡ Ok None → t ≡ false
none_is true x e = absurd (cc)
none_is false x e = refl

never_err : (t : Bool) (x : Pair) (fault : QuantityFault) → tested t x ≡ Err fault → fault ≡ TooWide
never_err true x fault e = absurd (cc)
never_err false x fault e = absurd (cc)

-- the bounds of f and of g, over the product of their bottoms
lower : (a s t q u : ℕ) → a * s ≤ t * u → a * (s * q) ≤ t * q * u
lower a s t q u h =
    le_trans (le_of_eq (let r : a * (s * q) ≡ (a * s) * q = omega arith in r))
    (le_trans (mul-le-mul_right q h) (le_of_eq (let r : (t * u) * q ≡ t * q * u = omega arith in r)))

upper : (a s t q u : ℕ) → t * u ≤ a * s → t * q * u ≤ a * (s * q)
upper a s t q u h =
    le_trans (le_of_eq (let r : t * q * u ≡ (t * u) * q = omega arith in r))
    (le_trans (mul-le-mul_right q h) (le_of_eq (let r : (a * s) * q ≡ a * (s * q) = omega arith in r)))

turned : (b q s : ℕ) → b * (q * s) ≡ b * (s * q)
turned b q s = omega arith

difference_encloses : (a b : Pair) (f g : Fraction) → Encloses a f → Encloses b g
    → Encloses (pair (a.first - b.second) (a.second - b.first)) (minus f g)
difference_encloses a b f g h k = record {
  bottom = mul-pos h.bottom k.bottom;
  lower = le_trans (le_of_eq (sub_times a.first b.second n))
      (le_trans (sub_le (a.first * n) (b.second * n) (x * unit) (y * unit) (lower a.first f.bottom f.top g.bottom unit h.lower)
      (le_trans (upper b.second g.bottom g.top f.bottom unit k.upper) (le_of_eq (turned b.second g.bottom f.bottom))))
      (le_of_eq (sym (sub_times x y unit))));
  upper = le_trans (le_of_eq (sub_times x y unit))
      (le_trans (sub_le (x * unit) (y * unit) (a.second * n) (b.first * n) (upper a.second f.bottom f.top g.bottom unit h.upper)
      (le_trans (le_of_eq (sym (turned b.first g.bottom f.bottom))) (lower b.first g.bottom g.top f.bottom unit k.lower)))
      (le_of_eq (sym (sub_times a.second b.first n))));
}
  where
    n : ℕ
    n = f.bottom * g.bottom

    x : ℕ
    x = f.top * g.bottom

    y : ℕ
    y = g.top * f.bottom

-- what is at most f has a lower bound that is at most the upper one of f
crossed : (a b : Pair) (f g : Fraction) → Encloses a f → Encloses b g → IsAtMost g f → b.first ≤ a.second
crossed a b f g h k most =
    scaled b.first a.second (f.bottom * g.bottom) (mul-pos h.bottom k.bottom)
    (le_trans (le_of_eq (sym (turned b.first g.bottom f.bottom)))
    (le_trans (lower b.first g.bottom g.top f.bottom unit k.lower)
    (le_trans (mul-le-mul_right unit most) (upper a.second f.bottom f.top g.bottom unit h.upper))))

-- a divisor that is 0 has no quotient
not_zero : (p b : ℕ) (r : Result Pair QuantityFault) (c : Pair) → (p ≡ 0 → b ≡ 0) → cond (eqb b 0) (Err ZeroBelow) r ≡ Ok c → 1 ≤ p
not_zero zero b r c h e = absurd (let k : Err ZeroBelow ≡ Ok c = ap (λ n. cond (eqb n 0) (Err ZeroBelow) r) (sym (h refl)) ∙ e in cc)
not_zero (suc p) b r c h e = omega arith

less_of : (a b : ℕ) → leb a b ≡ false → b < a
less_of a b e = grind (arith, e)

pub bounds_difference_lawful : IsLawfulDifference bounds bounds_minus Covers Encloses
bounds_difference_lawful = record {
  difference = λ a b c f g h k most e.
      subst (λ x. Encloses x (minus f g)) (left_is (leb b.first a.second) (pair (a.first - b.second) (a.second - b.first)) c e)
      (difference_encloses a b f g h.within k.within);
  below = λ a b f g h k e most.
      not_less a.second b.first (less_of b.first a.second (none_is (leb b.first a.second) (pair (a.first - b.second) (a.second - b.first)) e))
      (crossed a b f g h.within k.within most);
  div = λ a b c f g h k e. bounds_keep.div a b c f g h k.within e;
  divisor = λ a b c g k e.
      not_zero g.top b.second (cond (eqb b.first 0) (Err TooFine) (cond (leb (a.second * unit) most)
      (Ok (pair (a.first * unit / b.second) (ceiling (a.second * unit) b.first))) (Err TooWide))) c k.zero.1 e;
  weaker = λ n f h. h.within;
  equal = bounds_keep.equal;
  wide = λ a b fault e. never_err (leb b.first a.second) (pair (a.first - b.second) (a.second - b.first)) fault e;
}
