-- Steps of the code of exact fractions, over plain numbers.
use Rattle.std.proofs.Common.{ℕ, ◌+◌, ◌*◌, ◌/◌, ◌≡◌, ◌<◌, ◌≤◌, ◌&&◌, Bool, true, false, cond, leb, refl, sym, ap, ◌∙◌, subst, arith, mul-pos, Result}
use Rattle.std.proofs.Common.{Ok, Err, div-le_self, le_trans}
use Rattle.std.proofs.Math.Nat.{dvd-mul_left}
use Rattle.std.specs.Int.{◌∣◌}
use Rattle.quantity.specs.declared.fault.QuantityFault.{QuantityFault}
use Rattle.quantity.specs.declared.fault.QuantityFault.TheVariants.{TooWide}
use Rattle.quantity.specs.Divisors.{gcd_of}
use Rattle.quantity.specs.Laws.Gcd.{gcd_left, gcd_right, gcd_swap, coprime_product, coprime_parts, coprime_lowest}
use Rattle.quantity.specs.Kinds.{Pair, most}
use Rattle.quantity.specs.Exacts.{lowest, sum_over_bottom}
use Rattle.quantity.specs.Laws.Exact.{positive_part, multiple_of}

quotient_divides : (a b g : ℕ) → g * b ≡ a → b ∣ a
quotient_divides a b g e = subst (λ n. b ∣ n) e (dvd-mul_left b g)

pub product_lowest : (p q r s : ℕ) → 1 ≤ q → 1 ≤ s → gcd_of p q ≡ 1 → gcd_of r s ≡ 1
    → gcd_of ((p / gcd_of p s) * (r / gcd_of r q)) ((q / gcd_of r q) * (s / gcd_of p s)) ≡ 1
product_lowest p q r s lq ls h k =
    coprime_product x y (z * w)
    (gcd_swap x (z * w) ∙ coprime_product z w x
    (coprime_parts q p z x (gcd_swap q p ∙ h) (quotient_divides q z (gcd_of r q) (gcd_right r q)) (quotient_divides p x (gcd_of p s) (gcd_left p s)))
    (gcd_swap w x ∙ coprime_lowest p s ls))
    (gcd_swap y (z * w) ∙ coprime_product z w y
    (gcd_swap z y ∙ coprime_lowest r q lq)
    (coprime_parts s r w y (gcd_swap s r ∙ k) (quotient_divides s w (gcd_of p s) (gcd_right p s)) (quotient_divides r y (gcd_of r q) (gcd_left r q))))
  where
    x : ℕ
    x = p / gcd_of p s

    y : ℕ
    y = r / gcd_of r q

    z : ℕ
    z = q / gcd_of r q

    w : ℕ
    w = s / gcd_of p s

pub product_positive : (p q r s : ℕ) → 1 ≤ q → 1 ≤ s → 1 ≤ (q / gcd_of r q) * (s / gcd_of p s)
product_positive p q r s lq ls =
    mul-pos (positive_part (gcd_of r q) (q / gcd_of r q) (subst (λ n. 1 ≤ n) (sym (gcd_right r q)) lq))
    (positive_part (gcd_of p s) (s / gcd_of p s) (subst (λ n. 1 ≤ n) (sym (gcd_right p s)) ls))

pub lowest_positive : (p q : ℕ) → 1 ≤ q → 1 ≤ q / gcd_of p q
lowest_positive p q le = positive_part (gcd_of p q) (q / gcd_of p q) (subst (λ n. 1 ≤ n) (sym (gcd_right p q)) le)

pub quotient_most : (p g m : ℕ) → p ≤ m → p / g ≤ m
quotient_most p g m le = le_trans (div-le_self p g) le

abbrev pub both : ℕ → ℕ → Result Pair QuantityFault
both l t = cond (leb l most && leb t most) (Ok (lowest t l)) (Err TooWide)

-- the code's bottom and top are those of the sum
pub sum_is : (p q r s : ℕ) → 1 ≤ q → 1 ≤ s
    → sum_over_bottom (q * s / gcd_of q s) p q r s
    ≡ (let l = (q / gcd_of q s) * s in let t = p * (s / gcd_of q s) + r * (q / gcd_of q s) in cond (leb l most && leb t most) (Ok (lowest t l)) (Err TooWide))
sum_is p q r s lq ls =
    let m = multiple_of q s lq ls in
    ap (λ l. sum_over_bottom l p q r s) m.bottom
    ∙ ap (λ n. both ((q / gcd_of q s) * s) (p * n + r * (((q / gcd_of q s) * s) / s))) m.left
    ∙ ap (λ n. both ((q / gcd_of q s) * s) (p * (s / gcd_of q s) + r * n)) m.right

pub added : (p q r s g : ℕ) → 1 ≤ q → 1 ≤ s → g ≡ gcd_of q s → both ((q / g) * s) (p * (s / g) + r * (q / g)) ≡ sum_over_bottom (q * s / gcd_of q s) p q r s
added p q r s g lq ls e = ap (λ n. both ((q / n) * s) (p * (s / n) + r * (q / n))) e ∙ sym (sum_is p q r s lq ls)

-- what is refused for its width
over : (n : ℕ) → most < n → leb n most ≡ false
over n h = grind arith

pub wide_bottom : (l t : ℕ) → most < l → Err TooWide ≡ both l t
wide_bottom l t h = sym (ap (λ b. cond (b && leb t most) (Ok (lowest t l)) (Err TooWide)) (over l h))

no_top : (b : Bool) (x : Pair) → Err TooWide ≡ cond (b && false) (Ok x) (Err TooWide)
no_top true x = refl
no_top false x = refl

pub wide_top : (l t : ℕ) → most < t → Err TooWide ≡ both l t
wide_top l t h = no_top (leb l most) (lowest t l) ∙ sym (ap (λ b. cond (leb l most && b) (Ok (lowest t l)) (Err TooWide)) (over t h))

pub fits : (l t : ℕ) → l ≤ most → t ≤ most → Ok (lowest t l) ≡ both l t
fits l t p q = sym (let a : leb l most ≡ true = grind arith in let b : leb t most ≡ true = grind arith in
    ap (λ x. cond (x && leb t most) (Ok (lowest t l)) (Err TooWide)) a ∙ ap (λ x. cond x (Ok (lowest t l)) (Err TooWide)) b)
