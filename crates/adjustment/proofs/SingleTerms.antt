-- A sum of fractions is at least each of its terms.
use Rattle.std.proofs.Common.{ℕ, zero, suc, ◌+◌, ◌*◌, ◌≡◌, ◌<◌, ◌≤◌, Bool, true, false, inl, inr, subst, arith, refl}
use Rattle.std.proofs.Math.Nat.{le_of_mul-le-mul_left, mul-le-mul_left}
use Rattle.std.proofs.lemmas.Bool.{cases_eq}
use Rattle.fractions.specs.Vocabulary.{Fraction, IsPositive, add, add_below}
use Rattle.fractions.proofs.FractionLaws.{add_below_positive}
use Rattle.finite_models.specs.Vocabulary.{set_at}
use Rattle.finite_models.proofs.SumLaws.{set_at-own}
use Rattle.prob_expr.specs.Vocabulary.{add_over}
use Rattle.prob_expr.proofs.Boxes.{IsStable, along_box, add_over_positive}

-- f is at most g, in products
pub record IsAtMost (f g : Fraction) : Type 0 where
  pub products : f.top * g.bottom ≤ g.top * f.bottom

chained : (a b c d e f : ℕ) → 1 ≤ d → a * d ≤ c * b → c * f ≤ e * d → a * f ≤ e * b
chained a b c d e f some p q = le_of_mul-le-mul_left
    (omega (arith, mul-le-mul_left f p, mul-le-mul_left b q)) some

at_most_trans : (f g h : Fraction) → 1 ≤ g.bottom → IsAtMost f g → IsAtMost g h → IsAtMost f h
at_most_trans f g h some p q = record { products = chained f.top f.bottom g.top g.bottom h.top h.bottom some p.products q.products }

at_most_same : (f : Fraction) → IsAtMost f f
at_most_same f = record { products = omega arith }

more_left : (f g : Fraction) → IsAtMost f (add f g)
more_left f g = record { products = numbers f.top f.bottom g.top g.bottom }
  where
    numbers : (a b c d : ℕ) → a * (b * d) ≤ (a * d + c * b) * b
    numbers a b c d = omega arith

more_right : (f g : Fraction) → IsAtMost g (add f g)
more_right f g = record { products = numbers f.top f.bottom g.top g.bottom }
  where
    numbers : (a b c d : ℕ) → c * (b * d) ≤ (a * d + c * b) * d
    numbers a b c d = omega arith

summand : (k : ℕ) (f : ℕ → Fraction) (x : ℕ) → x < k → ((i : ℕ) → i < k → IsPositive (f i)) → IsAtMost (f x) (add_below k f)
summand zero f x lt h = absurd (omega (arith, lt))
summand (suc k) f x lt h = elim (cases_eq x k) [
  | inl e ↦ subst (λ i. IsAtMost (f i) (add_below (suc k) f)) (let same : k ≡ x = omega (arith, e) in same) (more_right (add_below k f) (f k))
  | inr d ↦ (let l : x < k = omega (arith, lt, d) in at_most_trans (f x) (add_below k f) (add (add_below k f) (f k))
      ((add_below_positive k f (omega (arith, l)) (λ i il. h i (omega (arith, il)))).bottom)
      (summand k f x l (λ i il. h i (omega (arith, il)))) (more_left (add_below k f) (f k)))
]

-- sums over the points with P
module _ (u : ℕ → Bool) (s : ℕ → ℕ) (P : (ℕ → ℕ) → Type 0) (f : (ℕ → ℕ) → Fraction) (positive : (c : ℕ → ℕ) → P c → IsPositive (f c)) where
  pub single_term : (n : ℕ) (b : ℕ → ℕ) → ((i : ℕ) → i < n → b i < s i) → IsStable n u s P → P b → IsAtMost (f b) (add_over u s n f b)
  single_term zero b within kept p = at_most_same (f b)
  single_term (suc n) b within kept p = go (u n) refl (single_term n b (λ i lt. within i (omega (arith, lt))) (λ c i x lt. kept c i x (omega (arith, lt))) p)
    where
      summed : (c : ℕ → ℕ) → P c → IsPositive (add_over u s n f c)
      summed c pc = add_over_positive u s P n f c (λ i lt. let w = within i (omega (arith, lt)) in omega (arith, w))
          (λ c i x lt. kept c i x (omega (arith, lt))) pc positive

      go : (v : Bool) → u n ≡ v → IsAtMost (f b) (add_over u s n f b) → IsAtMost (f b) (along_box v (s n) n (add_over u s n f) b)
      go false e ih = ih
      go true e ih = at_most_trans (f b) (add_over u s n f b) (add_below (s n) (λ x. add_over u s n f (set_at b n x))) ((summed b p).bottom) ih
          (subst (λ c. IsAtMost (add_over u s n f c) (add_below (s n) (λ x. add_over u s n f (set_at b n x)))) (set_at-own b n)
          (summand (s n) (λ x. add_over u s n f (set_at b n x)) (b n) (within n (omega arith))
          (λ x lt. summed (set_at b n x) (kept b n x (omega arith) e lt p))))
