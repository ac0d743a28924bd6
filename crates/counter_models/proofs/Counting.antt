-- Counting parities of independent bits, and a change of bits under a sum.
use Rattle.std.proofs.Common.{ℕ, zero, suc, ◌+◌, ◌-◌, ◌*◌, ◌≡◌, ◌<◌, Bool, true, false, cond, eqb, not, refl, sym, ap, ap₂, ◌∙◌, ◌&&◌, arith, eqb-true}
use mathlib.Core.Path.{fun_ext}
use Rattle.finite_models.specs.Vocabulary.{sum_below, product_below, sum_over, set_at, differ, odd_below}
use Rattle.finite_models.proofs.SumLaws.{along, along-congr, over-base, over-congr_within, over-mul, sum_below-congr, set_at-same, set_at-other}
use Rattle.finite_models.proofs.Indicators.{number}
use Rattle.counter_models.specs.Parities.{bit}
use Rattle.counter_models.proofs.ParityLaws.{differ-assoc}

-- ---- bits may be flipped under a sum
abbrev pub flip_value : Bool → ℕ → ℕ
flip_value d x = cond d (1 - x) x

abbrev pub flip : (ℕ → Bool) → (ℕ → ℕ) → ℕ → ℕ
flip d c i = flip_value (d i) (c i)

flip-set_at : (d : ℕ → Bool) (b : ℕ → ℕ) (n x : ℕ) → flip d (set_at b n x) ≡ set_at (flip d b) n (flip_value (d n) x)
flip-set_at d b n x = fun_ext (λ i. go i (eqb i n) refl)
  where
    go : (i : ℕ) (q : Bool) → eqb i n ≡ q → flip_value (d i) (cond (eqb i n) x (b i)) ≡ cond (eqb i n) (flip_value (d n) x) (flip_value (d i) (b i))
    go i true e = rw e (ap (λ r. flip_value (d r) x) (eqb-true i n e))
    go i false e = rw e refl

two_swapped : (k : ℕ) (d : Bool) (f : ℕ → ℕ) → (d ≡ true → k ≡ 2) → sum_below k (λ x. f (flip_value d x)) ≡ sum_below k f
two_swapped k false f h = refl
two_swapped k true f h = rw (h refl) (omega arith)

pub over-flip_base : (U : ℕ → Bool) (s : ℕ → ℕ) (n : ℕ) (F : (ℕ → ℕ) → ℕ) (d : ℕ → Bool) (b : ℕ → ℕ) → ((i : ℕ) → i < n → d i ≡ true → s i ≡ 2)
    → sum_over U s n (λ c. F (flip d c)) b ≡ sum_over U s n F (flip d b)
over-flip_base U s zero F d b h = refl
over-flip_base U s (suc n) F d b h =
    along-congr (U n) (s n) n (sum_over U s n (λ c. F (flip d c))) (λ c. sum_over U s n F (flip d c)) b
    (λ c. over-flip_base U s n F d c (λ i lt e. h i (omega arith) e))
    ∙ go (U n)
  where
    go : (p : Bool) → along p (s n) n (λ c. sum_over U s n F (flip d c)) b ≡ along p (s n) n (sum_over U s n F) (flip d b)
    go true =
        sum_below-congr (s n) (λ x. sum_over U s n F (flip d (set_at b n x))) (λ x. sum_over U s n F (set_at (flip d b) n (flip_value (d n) x)))
        (λ x lt. ap (sum_over U s n F) (flip-set_at d b n x))
        ∙ two_swapped (s n) (d n) (λ x. sum_over U s n F (set_at (flip d b) n x)) (h n (omega arith))
    go false = refl

pub over-flip : (U : ℕ → Bool) (s : ℕ → ℕ) (n : ℕ) (F : (ℕ → ℕ) → ℕ) (d : ℕ → Bool) (b : ℕ → ℕ) → ((i : ℕ) → d i ≡ true → (i < n) × (U i ≡ true) × (s i ≡ 2))
    → sum_over U s n (λ c. F (flip d c)) b ≡ sum_over U s n F b
over-flip U s n F d b h =
    over-flip_base U s n F d b (λ i lt e. (h i e).2)
    ∙ over-base U s n F (flip d b) b (λ i out. go i out (d i) refl)
  where
    go : (i : ℕ) → (i < n → U i ≡ true → ⊥) → (q : Bool) → d i ≡ q → flip_value (d i) (b i) ≡ b i
    go i out true e = absurd (out (h i e).0 (h i e).1)
    go i out false e = rw e refl

yes_false : (α β δ T D E O : ℕ) → α ≡ β + δ → 2 * E ≡ T + D → 2 * O + D ≡ T → 2 * (α * E + β * O) ≡ T * (α + β) + D * δ
yes_false α β δ T D E O a p q = rw a (omega (arith, ap (λ r. β * r) p, ap (λ r. δ * r) p, ap (λ r. β * r) q))

yes_true : (α β δ T D E O : ℕ) → α ≡ β + δ → 2 * E ≡ T + D → 2 * O + D ≡ T → 2 * (α * O + β * E) + D * δ ≡ T * (α + β)
yes_true α β δ T D E O a p q = rw a (omega (arith, ap (λ r. β * r) p, ap (λ r. δ * r) q, ap (λ r. β * r) q))

no_false : (α β T D E E' : ℕ) → 2 * E ≡ T + D → 2 * E' ≡ T + D → 2 * (α * E + β * E') ≡ T * (α + β) + D * (α + β)
no_false α β T D E E' p q = omega (arith, ap (λ r. α * r) p, ap (λ r. β * r) q)

no_true : (α β T D O O' : ℕ) → 2 * O + D ≡ T → 2 * O' + D ≡ T → 2 * (α * O + β * O') + D * (α + β) ≡ T * (α + β)
no_true α β T D O O' p q = omega (arith, ap (λ r. α * r) p, ap (λ r. β * r) q)

-- ---- parities of independent bits: w j 0 and w j 1 are the weights of cause j, and w j 0 is larger by extra j
module _ (w : ℕ → ℕ → ℕ) (extra : ℕ → ℕ) (larger : (j : ℕ) → w j 0 ≡ w j 1 + extra j) (J : ℕ → Bool) where
  abbrev pub bits_weight : ℕ → (ℕ → ℕ) → ℕ
  bits_weight n u = product_below n (λ j. w j (u j))

  abbrev pub parity_of : ℕ → (ℕ → ℕ) → Bool
  parity_of n u = odd_below n (λ j. J j && bit (u j))

  -- the weight of the worlds whose parity is c
  abbrev pub count : ℕ → Bool → (ℕ → ℕ) → ℕ
  count n c b = sum_over (λ j. true) (λ j. 2) n (λ u. bits_weight n u * number (not (differ (parity_of n u) c))) b

  abbrev pub whole : ℕ → ℕ
  whole n = product_below n (λ j. w j 0 + w j 1)

  abbrev pub gap : ℕ → ℕ
  gap n = product_below n (λ j. cond (J j) (extra j) (w j 0 + w j 1))

  one_value : (n : ℕ) (c : Bool) (b : ℕ → ℕ) (x : ℕ) →
      sum_over (λ j. true) (λ j. 2) n (λ u. bits_weight (suc n) u * number (not (differ (parity_of (suc n) u) c))) (set_at b n x)
      ≡ w n x * count n (differ (J n && bit x) c) (set_at b n x)
  one_value n c b x =
      over-congr_within (λ j. true) (λ j. 2) n (λ u. bits_weight (suc n) u * number (not (differ (parity_of (suc n) u) c)))
      (λ u. w n x * (bits_weight n u * number (not (differ (parity_of n u) (differ (J n && bit x) c))))) (set_at b n x)
      (λ u r same. let e : u n ≡ x = same n (omega arith) ∙ set_at-same b n x in
      rw (e, differ-assoc (parity_of n u) (J n && bit x) c) (order (bits_weight n u) (w n x) (number (not (differ (parity_of n u) (differ (J n && bit x) c))))))
      ∙ over-mul (λ j. true) (λ j. 2) n (λ u. w n x) (λ u. bits_weight n u * number (not (differ (parity_of n u) (differ (J n && bit x) c)))) (set_at b n x)
      (λ b' i y lt e. refl)
    where
      order : (p q r : ℕ) → (p * q) * r ≡ q * (p * r)
      order p q r = omega arith

  next : (n : ℕ) (c : Bool) (b : ℕ → ℕ) → count (suc n) c b ≡ w n 0 * count n (differ (J n && false) c) (set_at b n 0)
      + w n 1 * count n (differ (J n && true) c) (set_at b n 1)
  next n c b = omega (arith, one_value n c b 0, one_value n c b 1)

  pub halves : (n : ℕ) (b : ℕ → ℕ) → (2 * count n false b ≡ whole n + gap n) × (2 * count n true b + gap n ≡ whole n)
  halves zero b = (refl, refl)
  halves (suc n) b = go (J n) refl (halves n (set_at b n 0)) (halves n (set_at b n 1))
    where
      go : (p : Bool) → J n ≡ p → (2 * count n false (set_at b n 0) ≡ whole n + gap n) × (2 * count n true (set_at b n 0) + gap n ≡ whole n)
          → (2 * count n false (set_at b n 1) ≡ whole n + gap n) × (2 * count n true (set_at b n 1) + gap n ≡ whole n)
          → (2 * count (suc n) false b ≡ whole (suc n) + gap (suc n)) × (2 * count (suc n) true b + gap (suc n) ≡ whole (suc n))
      go true e h0 h1 = (
        ap (λ r. 2 * r) (next n false b ∙ ap (λ r. w n 0 * count n (differ (r && false) false) (set_at b n 0)
            + w n 1 * count n (differ (r && true) false) (set_at b n 1)) e)
            ∙ yes_false (w n 0) (w n 1) (extra n) (whole n) (gap n) (count n false (set_at b n 0)) (count n true (set_at b n 1)) (larger n) h0.0 h1.1
            ∙ ap (λ r. whole n * (w n 0 + w n 1) + gap n * cond r (extra n) (w n 0 + w n 1)) (sym e),
        ap₂ (λ q r. 2 * q + gap n * cond r (extra n) (w n 0 + w n 1))
            (next n true b ∙ ap (λ r. w n 0 * count n (differ (r && false) true) (set_at b n 0) + w n 1 * count n (differ (r && true) true) (set_at b n 1)) e) e
            ∙ yes_true (w n 0) (w n 1) (extra n) (whole n) (gap n) (count n false (set_at b n 1)) (count n true (set_at b n 0)) (larger n) h1.0 h0.1,
      )
      go false e h0 h1 = (
        ap (λ r. 2 * r) (next n false b ∙ ap (λ r. w n 0 * count n (differ (r && false) false) (set_at b n 0)
            + w n 1 * count n (differ (r && true) false) (set_at b n 1)) e)
            ∙ no_false (w n 0) (w n 1) (whole n) (gap n) (count n false (set_at b n 0)) (count n false (set_at b n 1)) h0.0 h1.0
            ∙ ap (λ r. whole n * (w n 0 + w n 1) + gap n * cond r (extra n) (w n 0 + w n 1)) (sym e),
        ap₂ (λ q r. 2 * q + gap n * cond r (extra n) (w n 0 + w n 1))
            (next n true b ∙ ap (λ r. w n 0 * count n (differ (r && false) true) (set_at b n 0) + w n 1 * count n (differ (r && true) true) (set_at b n 1)) e) e
            ∙ no_true (w n 0) (w n 1) (whole n) (gap n) (count n true (set_at b n 0)) (count n true (set_at b n 1)) h0.1 h1.1,
      )

-- the terms of a sum are at points in the box that keep the other coordinates
pub over-congr_box : (U : ℕ → Bool) (s : ℕ → ℕ) (n : ℕ) (F G : (ℕ → ℕ) → ℕ) (b : ℕ → ℕ)
    → ((c : ℕ → ℕ) → ((i : ℕ) → i < n → U i ≡ true → c i < s i) → ((i : ℕ) → (i < n → U i ≡ true → ⊥) → c i ≡ b i) → F c ≡ G c) → sum_over U s n F b
    ≡ sum_over U s n G b
over-congr_box U s zero F G b h = h b (λ i lt e. absurd (omega arith)) (λ i out. refl)
over-congr_box U s (suc n) F G b h = go (U n) refl (λ c. over-congr_box U s n F G c)
  where
    split : {P : Type 0} (i : ℕ) → i < suc n → (i < n → P) → (i ≡ n → P) → P
    split {P} i lt f k = pick (eqb i n) refl
      where
        pick : (p : Bool) → eqb i n ≡ p → P
        pick true e = k (eqb-true i n e)
        pick false e = f (let d : i ≡ n → ⊥ = λ q. absurd (grind (arith, q, e)) in omega arith)

    go : (p : Bool) → U n ≡ p
        → ((c : ℕ → ℕ) → ((c' : ℕ → ℕ) → ((i : ℕ) → i < n → U i ≡ true → c' i < s i) → ((i : ℕ) → (i < n → U i ≡ true → ⊥) → c' i ≡ c i) → F c' ≡ G c')
        → sum_over U s n F c ≡ sum_over U s n G c)
        → along p (s n) n (sum_over U s n F) b ≡ along p (s n) n (sum_over U s n G) b
    go true e ih =
        sum_below-congr (s n) (λ x. sum_over U s n F (set_at b n x)) (λ x. sum_over U s n G (set_at b n x))
        (λ x lt. ih (set_at b n x) (λ c r same. h c
        (λ i il u. split i il (λ l. r i l u) (λ q. rw q (rw (same n (λ l. absurd (omega arith)) ∙ set_at-same b n x) lt)))
        (λ i out. same i (λ l u. out (omega arith) u) ∙ set_at-other b n x i (λ q. out (omega (arith, q)) (ap U q ∙ e)))))
    go false e ih =
        ih b (λ c r same. h c
        (λ i il u. split i il (λ l. r i l u) (λ q. absurd (grind (arith, ap U q, u, e))))
        (λ i out. same i (λ l u. out (omega arith) u)))
