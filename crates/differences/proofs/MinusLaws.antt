-- Laws of differences of fractions.
use Rattle.std.proofs.Common.{ℕ, ◌+◌, ◌*◌, ◌-◌, ◌≡◌, ◌≤◌, ap, ap₂, sym, ◌∙◌, arith, mul-pos, mul-le-mul_right, le_trans, le_of_eq}
use Rattle.differences.specs.Laws.Taken.{sub_times, scaled}
use Rattle.differences.specs.Theorems.{DifferenceIsUndone, DifferencesAreEqual, EqualKeepsAtMost}

undone_numbers : (p q r s : ℕ) → r * q ≤ p * s → ((p * s - r * q) * s + r * (q * s)) * q ≡ p * (q * s * s)
undone_numbers p q r s le =
    ap (λ n. (n + r * (q * s)) * q) (sub_times (p * s) (r * q) s)
    ∙ ap (λ n. n * q) (let h : (r * q) * s ≤ (p * s) * s = mul-le-mul_right s le in
    let e : r * (q * s) ≡ (r * q) * s = omega arith in let k : (p * s) * s - (r * q) * s + r * (q * s) ≡ (p * s) * s = omega (arith, h, e) in k)
    ∙ (let k : (p * s) * s * q ≡ p * (q * s * s) = omega arith in k)

pub minus_undone : DifferenceIsUndone
minus_undone f g lf lg le = record {
  left_bottom = mul-pos (mul-pos lf lg) lg;
  right_bottom = lf;
  products = undone_numbers f.top f.bottom g.top g.bottom le;
}

-- the tops over the product of all bottoms
first_numbers : (p q s p' q' s' : ℕ) → p * q' ≡ p' * q → p * s * (q' * s') ≡ p' * s' * (q * s)
first_numbers p q s p' q' s' e =
    (let k : p * s * (q' * s') ≡ (p * q') * (s * s') = omega arith in k) ∙ ap (λ n. n * (s * s')) e
    ∙ (let k : (p' * q) * (s * s') ≡ p' * s' * (q * s) = omega arith in k)

second_numbers : (r q s r' q' s' : ℕ) → r * s' ≡ r' * s → r * q * (q' * s') ≡ r' * q' * (q * s)
second_numbers r q s r' q' s' e =
    (let k : r * q * (q' * s') ≡ (r * s') * (q * q') = omega arith in k) ∙ ap (λ n. n * (q * q')) e
    ∙ (let k : (r' * s) * (q * q') ≡ r' * q' * (q * s) = omega arith in k)

pub minus_equal : DifferencesAreEqual
minus_equal f f' g g' h k = record {
  left_bottom = mul-pos h.left_bottom k.left_bottom;
  right_bottom = mul-pos h.right_bottom k.right_bottom;
  products = sub_times (f.top * g.bottom) (g.top * f.bottom) (f'.bottom * g'.bottom)
      ∙ ap₂ (λ i j. i - j) (first_numbers f.top f.bottom g.bottom f'.top f'.bottom g'.bottom h.products)
      (second_numbers g.top f.bottom g.bottom g'.top f'.bottom g'.bottom k.products)
      ∙ sym (sub_times (f'.top * g'.bottom) (g'.top * f'.bottom) (f.bottom * g.bottom));
}

pub equal_at_most : EqualKeepsAtMost
equal_at_most f f' g g' h k le =
    scaled (g'.top * f'.bottom) (f'.top * g'.bottom) (f.bottom * g.bottom) (mul-pos h.left_bottom k.left_bottom)
    (le_trans (le_of_eq (sym (second_numbers g.top f.bottom g.bottom g'.top f'.bottom g'.bottom k.products)))
    (le_trans (mul-le-mul_right (f'.bottom * g'.bottom) le)
    (le_of_eq (first_numbers f.top f.bottom g.bottom f'.top f'.bottom g'.bottom h.products))))
