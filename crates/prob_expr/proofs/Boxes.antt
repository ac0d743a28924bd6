-- Laws of sums of fractions over the points of a box.
use Rattle.std.proofs.Common.{ℕ, zero, suc, ◌≡◌, ◌<◌, ◌≤◌, Bool, true, false, cond, eqb, refl, sym, subst, arith, eqb-true}
use Rattle.fractions.specs.Vocabulary.{Fraction, over, IsEqual, IsPositive, add_below}
use Rattle.fractions.proofs.FractionLaws.{add_below_equal, add_below_whole, add_below_positive}
use Rattle.finite_models.specs.Vocabulary.{sum_below, sum_over, set_at, IsAssignment}
use Rattle.finite_models.proofs.SumLaws.{along, sum_below-congr, set_at-same, set_at-other}
use Rattle.prob_expr.specs.Values.{add_over}

-- an assignment stays one where a coordinate is set in range
pub assignment_set : (n : ℕ) (size c : ℕ → ℕ) (i x : ℕ) → x < size i → IsAssignment n size c → IsAssignment n size (set_at c i x)
assignment_set n size c i x lt w v vl = go (eqb v i) refl
  where
    go : (p : Bool) → eqb v i ≡ p → set_at c i x v < size v
    go true e = subst (λ j. set_at c i x j < size j) (sym (eqb-true v i e)) (rw (set_at-same c i x) lt)
    go false e = rw (set_at-other c i x v (λ same. absurd (grind (arith, same, e)))) (w v vl)

-- P is kept where a summed coordinate is set in range
abbrev pub IsStable : ℕ → (ℕ → Bool) → (ℕ → ℕ) → ((ℕ → ℕ) → Type 0) → Type 0
IsStable n u s P = (c : ℕ → ℕ) (i x : ℕ) → i < n → u i ≡ true → x < s i → P c → P (set_at c i x)

lower : (n : ℕ) (u : ℕ → Bool) (s : ℕ → ℕ) (P : (ℕ → ℕ) → Type 0) → IsStable (suc n) u s P → IsStable n u s P
lower n u s P k c i x lt = k c i x (omega arith)

abbrev pub along_box : Bool → ℕ → ℕ → ((ℕ → ℕ) → Fraction) → (ℕ → ℕ) → Fraction
along_box p k i f b = cond p (add_below k (λ x. f (set_at b i x))) (f b)

-- sums over the points with P
module _ (u : ℕ → Bool) (s : ℕ → ℕ) (P : (ℕ → ℕ) → Type 0) where
  -- equal terms have equal sums, in two boxes of the same sizes
  pub add_over_equal : (n : ℕ) (t : ℕ → ℕ) (f g : (ℕ → ℕ) → Fraction) (b : ℕ → ℕ) → ((i : ℕ) → i < n → s i ≡ t i) → IsStable n u s P → P b
      → ((c : ℕ → ℕ) → P c → IsEqual (f c) (g c)) → IsEqual (add_over u s n f b) (add_over u t n g b)
  add_over_equal zero t f g b sizes k p h = h b p
  add_over_equal (suc n) t f g b sizes k p h = go (u n) refl (λ c pc. add_over_equal n t f g c (λ i lt. sizes i (omega arith)) (lower n u s P k) pc h)
    where
      go : (v : Bool) → u n ≡ v → ((c : ℕ → ℕ) → P c → IsEqual (add_over u s n f c) (add_over u t n g c))
          → IsEqual (along_box v (s n) n (add_over u s n f) b) (along_box v (t n) n (add_over u t n g) b)
      go true e ih = rw (sym (sizes n (omega arith))) (add_below_equal (s n) (λ x. add_over u s n f (set_at b n x)) (λ x. add_over u t n g (set_at b n x))
          (λ x lt. ih (set_at b n x) (k b n x (omega arith) e lt p)))
      go false e ih = ih b p

  -- terms over one bottom have the sum of their tops over it
  pub add_over_whole : (n d : ℕ) (f : (ℕ → ℕ) → Fraction) (top : (ℕ → ℕ) → ℕ) (b : ℕ → ℕ) → 1 ≤ d → IsStable n u s P → P b
      → ((c : ℕ → ℕ) → P c → IsEqual (f c) (over (top c) d)) → IsEqual (add_over u s n f b) (over (sum_over u s n top b) d)
  add_over_whole zero d f top b le k p h = h b p
  add_over_whole (suc n) d f top b le k p h = go (u n) refl (λ c pc. add_over_whole n d f top c le (lower n u s P k) pc h)
    where
      go : (v : Bool) → u n ≡ v → ((c : ℕ → ℕ) → P c → IsEqual (add_over u s n f c) (over (sum_over u s n top c) d))
          → IsEqual (along_box v (s n) n (add_over u s n f) b) (over (along v (s n) n (sum_over u s n top) b) d)
      go true e ih = add_below_whole (s n) d (λ x. add_over u s n f (set_at b n x)) (λ x. sum_over u s n top (set_at b n x))
          (λ i. sum_below i (λ x. sum_over u s n top (set_at b n x))) le refl (λ i. refl)
          (λ x lt. ih (set_at b n x) (k b n x (omega arith) e lt p))
      go false e ih = ih b p

  -- a sum of positive terms is positive, where each coordinate has a value
  pub add_over_positive : (n : ℕ) (f : (ℕ → ℕ) → Fraction) (b : ℕ → ℕ) → ((i : ℕ) → i < n → 1 ≤ s i) → IsStable n u s P → P b
      → ((c : ℕ → ℕ) → P c → IsPositive (f c)) → IsPositive (add_over u s n f b)
  add_over_positive zero f b sizes k p h = h b p
  add_over_positive (suc n) f b sizes k p h = go (u n) refl (λ c pc. add_over_positive n f c (λ i lt. sizes i (omega arith)) (lower n u s P k) pc h)
    where
      go : (v : Bool) → u n ≡ v → ((c : ℕ → ℕ) → P c → IsPositive (add_over u s n f c)) → IsPositive (along_box v (s n) n (add_over u s n f) b)
      go true e ih = add_below_positive (s n) (λ x. add_over u s n f (set_at b n x)) (sizes n (omega arith))
          (λ x lt. ih (set_at b n x) (k b n x (omega arith) e lt p))
      go false e ih = ih b p

  -- and for sums of numbers
  pub sum_over_equal : (n : ℕ) (t : ℕ → ℕ) (f g : (ℕ → ℕ) → ℕ) (b : ℕ → ℕ) → ((i : ℕ) → i < n → s i ≡ t i) → IsStable n u s P → P b
      → ((c : ℕ → ℕ) → P c → f c ≡ g c) → sum_over u s n f b ≡ sum_over u t n g b
  sum_over_equal zero t f g b sizes k p h = h b p
  sum_over_equal (suc n) t f g b sizes k p h = go (u n) refl (λ c pc. sum_over_equal n t f g c (λ i lt. sizes i (omega arith)) (lower n u s P k) pc h)
    where
      go : (v : Bool) → u n ≡ v → ((c : ℕ → ℕ) → P c → sum_over u s n f c ≡ sum_over u t n g c) → along v (s n) n (sum_over u s n f) b
          ≡ along v (t n) n (sum_over u t n g) b
      go true e ih = rw (sym (sizes n (omega arith))) (sum_below-congr (s n) (λ x. sum_over u s n f (set_at b n x)) (λ x. sum_over u t n g (set_at b n x))
          (λ x lt. ih (set_at b n x) (k b n x (omega arith) e lt p)))
      go false e ih = ih b p
