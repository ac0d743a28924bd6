-- Tests as 0 and 1, and the sum of a point's agreement over the coordinates that are left free.
use Rattle.std.proofs.Common.{ℕ, zero, suc, ◌+◌, ◌*◌, ◌≡◌, ◌<◌, ◌≤◌, Bool, true, false, cond, eqb, refl, ap, ◌∙◌, ◌||◌, ◌&&◌, arith, ne_eqb, eqb-true}
use Rattle.finite_models.specs.Sums.{sum_below, product_below, set_at, sum_over, all_below}
use Rattle.finite_models.specs.Models.{agree}
use Rattle.finite_models.proofs.Bools.{and_first, and_second}
use Rattle.finite_models.proofs.SumLaws.{sum_below-congr, sum_below-mul, product_below-congr, along, along-congr, over-mul-right, set_at-other, set_at-same}

-- a test as a number: 1 where it holds, 0 where it doesn't
abbrev pub number : Bool → ℕ
number b = cond b 1 0

pub number-and : (p q : Bool) → number (p && q) ≡ number p * number q
number-and true q = omega arith
number-and false q = omega arith

-- n where the test holds, and 0 elsewhere, is n times the test's number
pub cond-number : (p : Bool) (n : ℕ) → cond p n 0 ≡ n * number p
cond-number true n = omega arith
cond-number false n = omega arith

-- the number of a conjunction is the product of its tests' numbers
pub number-all : (k : ℕ) (p : ℕ → Bool) → number (all_below k p) ≡ product_below k (λ i. number (p i))
number-all zero p = refl
number-all (suc k) p = number-and (all_below k p) (p k) ∙ ap (λ n. n * number (p k)) (number-all k p)

-- what holds of all numbers below k holds of each
pub all_below_each : (k : ℕ) (p : ℕ → Bool) → all_below k p ≡ true → (i : ℕ) → i < k → p i ≡ true
all_below_each zero p e i lt = absurd (omega arith)
all_below_each (suc k) p e i lt = go (eqb i k) refl (all_below_each k p (and_first (all_below k p) (p k) e) i)
  where
    go : (b : Bool) → eqb i k ≡ b → (i < k → p i ≡ true) → p i ≡ true
    go true same h = rw (eqb-true i k same) (and_second (all_below k p) (p k) e)
    go false ne h = h (let d : i ≡ k → ⊥ = λ s. absurd (grind (arith, s, ne)) in omega arith)

-- what holds of each number below k holds of all
pub all_below_from : (k : ℕ) (p : ℕ → Bool) → ((i : ℕ) → i < k → p i ≡ true) → all_below k p ≡ true
all_below_from zero p h = refl
all_below_from (suc k) p h = rw (all_below_from k p (λ i lt. h i (omega arith)), h k (omega arith)) refl

-- Σ over x below k of [t = x] is 1 for a t below k
pub none_below : (k t : ℕ) → k ≤ t → sum_below k (λ x. number (eqb t x)) ≡ 0
none_below zero t le = refl
none_below (suc k) t le = let ne : eqb t k ≡ false = ne_eqb t k (omega arith) in rw ne (omega (arith, none_below k t (omega arith)))

pub sum_same : (k t : ℕ) → t < k → sum_below k (λ x. number (eqb t x)) ≡ 1
sum_same zero t lt = absurd (omega arith)
sum_same (suc k) t lt = go (eqb t k) refl (sum_same k t)
  where
    go : (b : Bool) → eqb t k ≡ b → (t < k → sum_below k (λ x. number (eqb t x)) ≡ 1) → sum_below k (λ x. number (eqb t x)) + number (eqb t k) ≡ 1
    go true e h = rw e (omega (arith, none_below k t (omega (arith, eqb-true t k e))))
    go false e h = rw e (omega (arith, h (let d : t ≡ k → ⊥ = λ s. absurd (grind (arith, s, e)) in omega arith)))

pub cond_gives : (p b : Bool) → cond p b true ≡ true → p ≡ true → b ≡ true
cond_gives true b e h = e
cond_gives false b e h = absurd (grind (arith, h))

pub cond_from : (p b : Bool) → (p ≡ true → b ≡ true) → cond p b true ≡ true
cond_from true b h = h refl
cond_from false b h = refl

-- whether the values of t and c at v agree where a
abbrev pub match_at : Bool → (ℕ → ℕ) → (ℕ → ℕ) → ℕ → ℕ
match_at a t c v = number (cond a (eqb (t v) (c v)) true)

-- 1 where the first n values of t and c agree on a, and 0 elsewhere
abbrev pub matches : ℕ → (ℕ → Bool) → (ℕ → ℕ) → (ℕ → ℕ) → ℕ
matches n a t c = product_below n (λ v. match_at (a v) t c v)

-- agreement as a number is the product of the agreements at each vertex
pub agree-matches : (n : ℕ) (a : ℕ → Bool) (t c : ℕ → ℕ) → number (agree n a t c) ≡ matches n a t c
agree-matches n a t c = number-all n (λ v. cond (a v) (eqb (t v) (c v)) true)

matches_ignores : (k : ℕ) (a : ℕ → Bool) (t b : ℕ → ℕ) (n x : ℕ) → k ≤ n → matches k a t (set_at b n x) ≡ matches k a t b
matches_ignores k a t b n x le =
    product_below-congr k (λ v. match_at (a v) t (set_at b n x) v) (λ v. match_at (a v) t b v)
    (λ v lt. ap (λ r. number (cond (a v) (eqb (t v) r) true)) (set_at-other b n x v (omega arith)))

free_coordinate : (p a : Bool) (size t : ℕ → ℕ) (n : ℕ) (A : ℕ → Bool) (b : ℕ → ℕ) → t n < size n → (a ≡ true → p ≡ true → ⊥)
    → along p (size n) n (λ c. matches n A t c * match_at (a || p) t c n) b ≡ matches n A t b * match_at a t b n
free_coordinate true true size t n A b lt d = absurd (d refl refl)
free_coordinate true false size t n A b lt d =
    sum_below-congr (size n) (λ x. matches n A t (set_at b n x) * number (eqb (t n) (set_at b n x n))) (λ x. matches n A t b * number (eqb (t n) x))
    (λ x l. ap (λ r. r * number (eqb (t n) (set_at b n x n))) (matches_ignores n A t b n x (omega arith))
    ∙ ap (λ r. matches n A t b * number (eqb (t n) r)) (set_at-same b n x))
    ∙ sum_below-mul (size n) (matches n A t b) (λ x. number (eqb (t n) x))
    ∙ ap (λ r. matches n A t b * r) (sum_same (size n) (t n) lt)
free_coordinate false true size t n A b lt d = refl
free_coordinate false false size t n A b lt d = refl

match_ignores : (n : ℕ) (U A : ℕ → Bool) (a : Bool) (t b : ℕ → ℕ) (i x : ℕ) → i < n → match_at a t (set_at b i x) n ≡ match_at a t b n
match_ignores n U A a t b i x lt = ap (λ r. number (cond a (eqb (t n) r) true)) (set_at-other b i x n (omega arith))

-- summed over the coordinates in U, the agreement on A and U is the agreement on A
pub over-matches : (U A : ℕ → Bool) (size t : ℕ → ℕ) (n : ℕ) (b : ℕ → ℕ) → ((v : ℕ) → v < n → t v < size v) → ((v : ℕ) → A v ≡ true → U v ≡ true → ⊥)
    → sum_over U size n (matches n (λ v. A v || U v) t) b ≡ matches n A t b
over-matches U A size t zero b h d = refl
over-matches U A size t (suc n) b h d =
    along-congr (U n) (size n) n (sum_over U size n (matches (suc n) (λ v. A v || U v) t)) (λ c. matches n A t c * match_at (A n || U n) t c n) b
    (λ c. over-mul-right U size n (matches n (λ v. A v || U v) t) (λ c'. match_at (A n || U n) t c' n) c
    (λ b' i x lt e. match_ignores n U A (A n || U n) t b' i x lt)
    ∙ ap (λ r. r * match_at (A n || U n) t c n) (over-matches U A size t n c (λ v lt. h v (omega arith)) d))
    ∙ free_coordinate (U n) (A n) size t n A b (h n (omega arith)) (d n)
