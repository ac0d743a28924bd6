-- The stated probability of the event in the second model, and a point of a box at which a sum has a term.
use Rattle.std.proofs.Common.{ℕ, zero, suc, ◌+◌, ◌*◌, ◌^◌, ◌≡◌, ◌<◌, ◌≤◌, Bool, true, false, eqb, ltb, refl, sym, ap, ap₂, ◌∙◌, arith, eqb-true, lt-ltb, le-ltb}
use native.Mathlib.Nat.{pow-zero, pow-suc}
use Rattle.finite_models.specs.Vocabulary.{sum_below, product_below, sum_over, set_at}
use Rattle.finite_models.proofs.SumLaws.{along, set_at-same, set_at-other}
use Rattle.counter_models.specs.Hedges.{ParityHedge, links_of}
use Rattle.counter_models.specs.ParityPairs.{cause_weight}
use Rattle.counter_models.proofs.Counting.{whole}
use Rattle.counter_models.proofs.Effects.{extra_weight, larger, product_same}

four_is : (n : ℕ) → 4 ^ n ≡ 2 ^ n * 2 ^ n
four_is zero = rw (pow-zero 4, pow-zero 2) refl
four_is (suc n) = let a = pow-suc 4 n in let b = pow-suc 2 n in rw (a, b, four_is n) (regroup (2 ^ n))
  where
    regroup : (p : ℕ) → (p * p) * 4 ≡ (p * 2) * (p * 2)
    regroup p = omega arith

two_add : (l n : ℕ) → 2 ^ (l + n) ≡ 2 ^ l * 2 ^ n
two_add l zero = let e : l + 0 ≡ l = omega arith in rw (e, pow-zero 2) (omega arith)
two_add l (suc n) = let e : l + suc n ≡ suc (l + n) = omega arith in rw e
    (pow-suc 2 (l + n) ∙ ap (λ r. r * 2) (two_add l n) ∙ regroup (2 ^ l) (2 ^ n) ∙ ap (λ r. 2 ^ l * r) (sym (pow-suc 2 n)))
  where
    regroup : (p q : ℕ) → (p * q) * 2 ≡ p * (q * 2)
    regroup p q = omega arith

ranges : (l n : ℕ) (f : ℕ → ℕ) → ((j : ℕ) → j < l → f j ≡ 2) → ((j : ℕ) → l ≤ j → f j ≡ 4) → product_below (l + n) f ≡ 2 ^ l * 4 ^ n
ranges l zero f a b = let e : l + 0 ≡ l = omega arith in rw (e, pow-zero 4) (product_same l 2 f a ∙ omega arith)
ranges l (suc n) f a b =
    let e : l + suc n ≡ suc (l + n) = omega arith in
    rw e (ap₂ (λ p q. p * q) (ranges l n f a b) (b (l + n) (omega arith)) ∙ regroup (2 ^ l) (4 ^ n) ∙ ap (λ r. 2 ^ l * r) (sym (pow-suc 4 n)))
  where
    regroup : (p q : ℕ) → (p * q) * 4 ≡ p * (q * 4)
    regroup p q = omega arith

pub total_is : (d : ParityHedge) (J : ℕ → Bool) (noise : ℕ) → whole (cause_weight d) (extra_weight d) (larger d) J (links_of d + noise)
    ≡ 2 ^ links_of d * 4 ^ noise
total_is d J noise = ranges (links_of d) noise (λ j. cause_weight d j 0 + cause_weight d j 1)
    (λ j lt. let l : ltb j (links_of d) ≡ true = lt-ltb j (links_of d) lt in rw l refl)
    (λ j le. let l : ltb j (links_of d) ≡ false = le-ltb j (links_of d) le in rw l refl)

-- from 2 E = T + 2 ^ (l + n) and T = 2 ^ l * 4 ^ n
pub stated : (l n E T : ℕ) → T ≡ 2 ^ l * 4 ^ n → 2 * E ≡ T + 2 ^ (l + n) → 2 ^ (n + 1) * E ≡ (2 ^ n + 1) * T
stated l n E T t h =
    let e : n + 1 ≡ suc n = omega arith in
    rw e (ap (λ r. r * E) (pow-suc 2 n) ∙ steps (2 ^ n) (2 ^ l) (2 ^ (l + n)) E T (two_add l n) (t ∙ ap (λ r. 2 ^ l * r) (four_is n)) h)
  where
    steps : (p q r E T : ℕ) → r ≡ q * p → T ≡ q * (p * p) → 2 * E ≡ T + r → (p * 2) * E ≡ (p + 1) * T
    steps p q r E T a b c = omega (arith, ap (λ x. p * x) c, ap (λ x. p * x) a, b)

-- ---- a sum that is not 0 has a term that is not
pub record Found (U : ℕ → Bool) (s : ℕ → ℕ) (n : ℕ) (F : (ℕ → ℕ) → ℕ) (b : ℕ → ℕ) : Type 0 where
  pub point : ℕ → ℕ
  pub inside : (i : ℕ) → i < n → U i ≡ true → point i < s i
  pub same : (i : ℕ) → (i < n → U i ≡ true → ⊥) → point i ≡ b i
  pub some : 1 ≤ F point

pub find_below : (k : ℕ) (f : ℕ → ℕ) → 1 ≤ sum_below k f → (i : ℕ) × (i < k) × (1 ≤ f i)
find_below zero f le = absurd (omega arith)
find_below (suc k) f le = go (f k) refl (find_below k f)
  where
    go : (x : ℕ) → f k ≡ x → (1 ≤ sum_below k f → (i : ℕ) × (i < k) × (1 ≤ f i)) → (i : ℕ) × (i < suc k) × (1 ≤ f i)
    go zero e ih = let w = ih (omega (arith, e)) in (w.0, omega (arith, w.1), w.2)
    go (suc x) e ih = (k, omega arith, omega (arith, e))

pub over-find : (U : ℕ → Bool) (s : ℕ → ℕ) (n : ℕ) (F : (ℕ → ℕ) → ℕ) (b : ℕ → ℕ) → 1 ≤ sum_over U s n F b → Found U s n F b
over-find U s zero F b le = record { point = b; inside = λ i lt e. absurd (omega arith); same = λ i out. refl; some = le }
over-find U s (suc n) F b le = go (U n) refl le (λ c l. over-find U s n F c l)
  where
    go : (p : Bool) → U n ≡ p → 1 ≤ along p (s n) n (sum_over U s n F) b → ((c : ℕ → ℕ) → 1 ≤ sum_over U s n F c → Found U s n F c) → Found U s (suc n) F b
    go true e le ih = at (find_below (s n) (λ x. sum_over U s n F (set_at b n x)) le)
      where
        at : (x : ℕ) × (x < s n) × (1 ≤ sum_over U s n F (set_at b n x)) → Found U s (suc n) F b
        at (x, lt, l) = let f = ih (set_at b n x) l in
            record {
              point = f.point;
              inside = λ i il u. place f x lt i il u (eqb i n) refl;
              same = λ i out. f.same i (λ il u. out (omega arith) u) ∙ set_at-other b n x i (λ q. out (omega (arith, q)) (ap U q ∙ e));
              some = f.some;
            }
          where
            place : (f : Found U s n F (set_at b n x)) (y : ℕ) → x < s n → (i : ℕ) → i < suc n → U i ≡ true → (c : Bool) → eqb i n ≡ c → f.point i < s i
            place f y lt i il u true q = rw (eqb-true i n q) (rw (f.same n (λ l v. absurd (omega arith)) ∙ set_at-same b n x) lt)
            place f y lt i il u false q = f.inside i (let d : i ≡ n → ⊥ = λ r. absurd (grind (arith, r, q)) in omega arith) u
    go false e le ih = let f = ih b le in
        record {
          point = f.point;
          inside = λ i il u. f.inside i (let d : i ≡ n → ⊥ = λ r. absurd (grind (arith, ap U r, u, e)) in omega arith) u;
          same = λ i out. f.same i (λ il u. out (omega arith) u);
          some = f.some;
        }
