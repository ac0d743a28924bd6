-- The quotient of two whole numbers as an exact fraction.
use Rattle.std.proofs.Common.{ℕ, ◌*◌, ◌/◌, ◌≡◌, ◌≤◌, ◌&&◌, cond, leb, Result, Ok, Err, ap, ap₂, ◌∙◌, arith, div-le_self, le_trans}
use Rattle.std.proofs.Math.Nat.{one-dvd}
use Rattle.std.proofs.lemmas.Bool.{le-leb, ne_eqb}
use Rattle.std.proofs.lemmas.Nat.Gcd.{dvd_antisymm}
use Rattle.quantity.specs.declared.fault.QuantityFault.{QuantityFault}
use Rattle.quantity.specs.declared.fault.QuantityFault.TheVariants.{TooWide, ZeroBelow}
use Rattle.quantity.specs.Vocabulary.{gcd_of, coprime_from, most, lowest, product_by, exact_div}
use Rattle.quantity.specs.Kinds.{Pair, pair}

-- a whole number is in lowest terms
pub whole_lowest : (p : ℕ) → gcd_of p 1 ≡ 1
whole_lowest p = coprime_from p 1 (λ d left right. dvd_antisymm right (one-dvd d))

fits_pair : (x y : ℕ) → x ≤ most → y ≤ most → cond {A = Result Pair QuantityFault} (leb x most && leb y most) (Ok (pair x y)) (Err TooWide) ≡ Ok (pair x y)
fits_pair x y lx ly = ap₂ (λ a b. cond {A = Result Pair QuantityFault} (a && b) (Ok (pair x y)) (Err TooWide)) (le-leb x most lx) (le-leb y most ly)

pub quotient_exact : (t b : ℕ) → 1 ≤ b → t ≤ most → b ≤ most → exact_div (pair t 1) (pair b 1) ≡ Ok (lowest t b)
quotient_exact t b pos lt lb =
    ap (λ c. cond {A = Result Pair QuantityFault} c (Err ZeroBelow) (product_by (gcd_of t b) (gcd_of 1 1) t 1 1 b))
    (ne_eqb b 0 (λ e. absurd (omega (arith, e, pos))))
    ∙ ap (λ k. product_by (gcd_of t b) k t 1 1 b) (whole_lowest 1)
    ∙ fits_pair ((t / gcd_of t b) * 1) (1 * (b / gcd_of t b))
    (let l = le_trans (div-le_self t (gcd_of t b)) lt in omega (arith, l)) (let l = le_trans (div-le_self b (gcd_of t b)) lb in omega (arith, l))
    ∙ ap₂ (λ x y. Ok (pair x y)) (let e : (t / gcd_of t b) * 1 ≡ t / gcd_of t b = omega arith in e) (let e : 1 * (b / gcd_of t b) ≡ b / gcd_of t b = omega arith in e)
