-- Each place of a table is the index of some values.
use Rattle.std.proofs.Common.{ℕ, zero, suc, ◌+◌, ◌*◌, ◌%◌, ◌/◌, ◌≡◌, ◌<◌, Bool, true, false, cond, eqb, refl, ◌∙◌, inl, inr, arith}
use Rattle.std.proofs.lemmas.Bool.{cases_eq, cases_Bool, eq-eqb, ne_eqb}
use Rattle.finite_models.specs.Sums.{set_at}
use Rattle.finite_models.specs.Tables.{radix, radix_range, table_index, table_range}
use Rattle.finite_models.proofs.TableLaws.{radix-congr}

-- the digits s are below their bases, and write the number i
pub record Writes (n : ℕ) (p : ℕ → Bool) (b : ℕ → ℕ) (i : ℕ) : Type 0 where
  pub digits : ℕ → ℕ
  pub below : (k : ℕ) → k < n → digits k < b k
  pub is : radix n p b digits ≡ i

set_at-same : (s : ℕ → ℕ) (n x : ℕ) → set_at s n x n ≡ x
set_at-same s n x = rw (eq-eqb n n refl) refl

set_at-other : (s : ℕ → ℕ) (n x k : ℕ) → k < n → set_at s n x k ≡ s k
set_at-other s n x k lt = let e : eqb k n ≡ false = ne_eqb k n (λ q. absurd (omega arith)) in rw e refl

cond_true : (c : Bool) (x y z : ℕ) → c ≡ true → x ≡ z → cond c x y ≡ z
cond_true true x y z e h = h
cond_true false x y z e h = absurd (cc)

cond_false : (c : Bool) (x y z : ℕ) → c ≡ false → y ≡ z → cond c x y ≡ z
cond_false false x y z e h = h
cond_false true x y z e h = absurd (cc)

range_true : (c : Bool) (x y i : ℕ) → c ≡ true → i < cond c x y → i < x
range_true true x y i e h = h
range_true false x y i e h = absurd (cc)

range_false : (c : Bool) (x y i : ℕ) → c ≡ false → i < cond c x y → i < y
range_false false x y i e h = h
range_false true x y i e h = absurd (cc)

quotient_below : (i a d : ℕ) → 0 < d → i < a * d → i / d < a
quotient_below i a d pos lt = grind arith

-- the digit x after the digits s
extended : (n : ℕ) (p : ℕ → Bool) (b : ℕ → ℕ) (i x : ℕ) → x < b n → (w : Writes n p b i) → (k : ℕ) → k < suc n → set_at w.digits n x k < b k
extended n p b i x l w k lt = elim (cases_eq k n) [
  | inl e ↦ rw e (let q = set_at-same w.digits n x in omega arith)
  | inr d ↦ let q = set_at-other w.digits n x k (omega arith) in let r = w.below k (omega arith) in omega arith
]

kept_digits : (n : ℕ) (p : ℕ → Bool) (b : ℕ → ℕ) (i x : ℕ) (w : Writes n p b i) → radix n p b (set_at w.digits n x) ≡ i
kept_digits n p b i x w = radix-congr n p b (set_at w.digits n x) w.digits (λ k lt e. set_at-other w.digits n x k lt) ∙ w.is

pub written : (n : ℕ) (p : ℕ → Bool) (b : ℕ → ℕ) → ((k : ℕ) → k < n → 0 < b k) → (i : ℕ) → i < radix_range n p b → Writes n p b i
written zero p b pos i lt = record { digits = λ k. 0; below = λ k l. absurd (omega arith); is = omega arith }
written (suc n) p b pos i lt = elim (cases_Bool (p n)) [
  | inl t ↦
      let l : i < radix_range n p b * b n = range_true (p n) _ _ i t lt in
      let w = written n p b (λ k h. pos k (omega arith)) (i / b n) (quotient_below i (radix_range n p b) (b n) (pos n (omega arith)) l) in
      let here : 0 < b n = pos n (omega arith) in
      record {
        digits = set_at w.digits n (i % b n);
        below = extended n p b (i / b n) (i % b n) (omega arith) w;
        is = cond_true (p n) _ _ i t (joined i (b n) _ _ here (kept_digits n p b (i / b n) (i % b n) w) (set_at-same w.digits n (i % b n)));
      }
  | inr f ↦
      let l : i < radix_range n p b = range_false (p n) _ _ i f lt in
      let w = written n p b (λ k h. pos k (omega arith)) i l in
      record {
        digits = set_at w.digits n 0;
        below = extended n p b i 0 (pos n (omega arith)) w;
        is = cond_false (p n) _ _ i f (kept_digits n p b i 0 w);
      }
]
  where
    joined : (i d q r : ℕ) → 0 < d → q ≡ i / d → r ≡ i % d → q * d + r ≡ i
    joined i d q r pos e f = rw (e, f) (omega arith)

-- the values s and u have the index i
pub record Places (n m : ℕ) (parent serves : ℕ → Bool) (size values : ℕ → ℕ) (i : ℕ) : Type 0 where
  pub parents : ℕ → ℕ
  pub causes : ℕ → ℕ
  pub parents_below : (k : ℕ) → k < n → parents k < size k
  pub causes_below : (j : ℕ) → j < m → causes j < values j
  pub is : table_index n m parent serves size values parents causes ≡ i

positive_product : (x y : ℕ) → 0 < x → 0 < y → 0 < x * y
positive_product x zero h k = absurd (omega arith)
positive_product x (suc y) h k = let e : x * suc y ≡ x * y + x = omega arith in omega arith

-- with positive bases the range is positive
pub positive_range : (n : ℕ) (p : ℕ → Bool) (b : ℕ → ℕ) → ((k : ℕ) → k < n → 0 < b k) → 0 < radix_range n p b
positive_range zero p b pos = omega arith
positive_range (suc n) p b pos = more (p n) (radix_range n p b) (b n) (positive_range n p b (λ k h. pos k (omega arith))) (pos n (omega arith))
  where
    more : (c : Bool) (x y : ℕ) → 0 < x → 0 < y → 0 < cond c (x * y) x
    more true x y h k = positive_product x y h k
    more false x y h k = h

pub placed : (n m : ℕ) (parent serves : ℕ → Bool) (size values : ℕ → ℕ) → ((k : ℕ) → k < n → 0 < size k) → ((j : ℕ) → j < m → 0 < values j)
    → (i : ℕ) → i < table_range n m parent serves size values → Places n m parent serves size values i
placed n m parent serves size values hs hu i lt =
    let q : 0 < radix_range m serves values = positive_range m serves values hu in
    let a = written n parent size hs (i / radix_range m serves values) (quotient_below i (radix_range n parent size) (radix_range m serves values) q lt) in
    let b = written m serves values hu (i % radix_range m serves values) (omega arith) in
    record {
      parents = a.digits;
      causes = b.digits;
      parents_below = a.below;
      causes_below = b.below;
      is = joined i (radix_range m serves values) _ _ q a.is b.is;
    }
  where
    joined : (i d q r : ℕ) → 0 < d → q ≡ i / d → r ≡ i % d → q * d + r ≡ i
    joined i d q r pos e f = rw (e, f) (omega arith)
