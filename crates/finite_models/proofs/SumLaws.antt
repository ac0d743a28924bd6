-- Laws of finite sums.
use Rattle.std.proofs.Common.{ℕ, zero, suc, ◌+◌, ◌*◌, ◌≡◌, ◌<◌, ◌≤◌, Bool, true, false, cond, eqb, refl, sym, ap, ap₂, ◌∙◌, ◌||◌, arith, rules}
use Rattle.std.proofs.Common.{ne_eqb, eqb-true}
use mathlib.Core.Path.{fun_ext}
use Rattle.finite_models.specs.Sums.{sum_below, product_below, set_at, sum_over}

-- sums of equal terms are equal
pub sum_below-congr : (k : ℕ) (f g : ℕ → ℕ) → ((i : ℕ) → i < k → f i ≡ g i) → sum_below k f ≡ sum_below k g
sum_below-congr zero f g h = refl
sum_below-congr (suc k) f g h = omega (arith, sum_below-congr k f g (λ i lt. h i (omega arith)), h k (omega arith))

pub sum_below-zero : (k : ℕ) → sum_below k (λ i. 0) ≡ 0
sum_below-zero zero = refl
sum_below-zero (suc k) = omega (arith, sum_below-zero k)

pub sum_below-add : (k : ℕ) (f g : ℕ → ℕ) → sum_below k (λ i. f i + g i) ≡ sum_below k f + sum_below k g
sum_below-add zero f g = refl
sum_below-add (suc k) f g = omega (arith, sum_below-add k f g)

pub sum_below-mul : (k c : ℕ) (f : ℕ → ℕ) → sum_below k (λ i. c * f i) ≡ c * sum_below k f
sum_below-mul zero c f = omega arith
sum_below-mul (suc k) c f = omega (arith, sum_below-mul k c f)

pub sum_below-swap : (k l : ℕ) (f : ℕ → ℕ → ℕ) → sum_below k (λ i. sum_below l (λ j. f i j)) ≡ sum_below l (λ j. sum_below k (λ i. f i j))
sum_below-swap zero l f = sym (sum_below-zero l)
sum_below-swap (suc k) l f = ap (λ n. n + sum_below l (λ j. f k j)) (sum_below-swap k l f) ∙ sym (sum_below-add l (λ j. sum_below k (λ i. f i j)) (λ j. f k j))

-- a sum is at least any of its terms
sum_below_term : (k : ℕ) (f : ℕ → ℕ) (x : ℕ) → x < k → f x ≤ sum_below k f
sum_below_term zero f x lt = absurd (omega arith)
sum_below_term (suc k) f x lt = go (eqb x k) refl (λ l. sum_below_term k f x l)
  where
    go : (q : Bool) → eqb x k ≡ q → (x < k → f x ≤ sum_below k f) → f x ≤ sum_below k f + f k
    go true e ih = let same : x ≡ k = eqb-true x k e in rw same (omega arith)
    go false e ih = omega (arith, ih (let d : x ≡ k → ⊥ = λ s. absurd (grind (arith, s, e)) in omega arith))

-- ---- products
pub product_below-congr : (k : ℕ) (f g : ℕ → ℕ) → ((i : ℕ) → i < k → f i ≡ g i) → product_below k f ≡ product_below k g
product_below-congr zero f g h = refl
product_below-congr (suc k) f g h = ap (λ n. n * f k) (product_below-congr k f g (λ i lt. h i (omega arith)))
    ∙ ap (λ n. product_below k g * n) (h k (omega arith))

-- the product of all f i * g i is the product of the f i times the product of the g i
pub product_below-mul : (k : ℕ) (f g : ℕ → ℕ) → product_below k (λ i. f i * g i) ≡ product_below k f * product_below k g
product_below-mul zero f g = omega arith
product_below-mul (suc k) f g = ap (λ n. n * (f k * g k)) (product_below-mul k f g) ∙ omega arith

-- the product of the first c + n factors is that of the first c times that of the n after them
pub product-split : (c n : ℕ) (f : ℕ → ℕ) (N : ℕ) → N ≡ c + n → product_below N f ≡ product_below c f * product_below n (λ v. f (c + v))
product-split c zero f N e = ap (λ t. product_below t f) (let q : N ≡ c = omega (arith, e) in q) ∙ omega arith
product-split c (suc n) f zero e = absurd (omega (arith, e))
product-split c (suc n) f (suc N) e =
    let same : N ≡ c + n = omega (arith, e) in
    ap₂ (λ a b. a * b) (product-split c n f N same) (ap f same) ∙ omega arith

-- ---- points
pub eqb-refl : (n : ℕ) → eqb n n ≡ true
eqb-refl n = search rules

-- the coordinate that was set has its new value
pub set_at-same : (b : ℕ → ℕ) (i x : ℕ) → set_at b i x i ≡ x
set_at-same b i x = rw (eqb-refl i) refl

-- each other coordinate keeps its value
pub set_at-other : (b : ℕ → ℕ) (i x k : ℕ) → (k ≡ i → ⊥) → set_at b i x k ≡ b k
set_at-other b i x k ne = let e : eqb k i ≡ false = ne_eqb k i ne in rw e refl

-- a coordinate set to what it is
pub set_at-own : (b : ℕ → ℕ) (n : ℕ) → set_at b n (b n) ≡ b
set_at-own b n = fun_ext (λ i. go i (eqb i n) refl)
  where
    go : (i : ℕ) (q : Bool) → eqb i n ≡ q → cond (eqb i n) (b n) (b i) ≡ b i
    go i true e = rw e (ap b (sym (eqb-true i n e)))
    go i false e = rw e refl

set_at-swap_at : (b : ℕ → ℕ) (i j x y k : ℕ) → (i ≡ j → ⊥) → set_at (set_at b i x) j y k ≡ set_at (set_at b j y) i x k
set_at-swap_at b i j x y k ne = go (eqb k i) (eqb k j) refl refl
  where
    go : (p q : Bool) → eqb k i ≡ p → eqb k j ≡ q → cond (eqb k j) y (cond (eqb k i) x (b k)) ≡ cond (eqb k i) x (cond (eqb k j) y (b k))
    go true true e f = absurd (ne (sym (eqb-true k i e) ∙ eqb-true k j f))
    go true false e f = rw (e, f) refl
    go false true e f = rw (e, f) refl
    go false false e f = rw (e, f) refl

-- two different coordinates may be set in either order
pub set_at-swap : (b : ℕ → ℕ) (i j x y : ℕ) → (i ≡ j → ⊥) → set_at (set_at b i x) j y ≡ set_at (set_at b j y) i x
set_at-swap b i j x y ne = fun_ext (λ k. set_at-swap_at b i j x y k ne)

-- ---- sums over boxes
-- F does not depend on the coordinates in U below n
abbrev pub Ignores : ℕ → (ℕ → Bool) → ((ℕ → ℕ) → ℕ) → Type 0
Ignores n U F = (b : ℕ → ℕ) (i x : ℕ) → i < n → U i ≡ true → F (set_at b i x) ≡ F b

pub weaken : (n : ℕ) (U : ℕ → Bool) (F : (ℕ → ℕ) → ℕ) → Ignores (suc n) U F → Ignores n U F
weaken n U F h b i x lt e = h b i x (omega arith) e

-- the sum over one coordinate, where p
abbrev pub along : Bool → ℕ → ℕ → ((ℕ → ℕ) → ℕ) → (ℕ → ℕ) → ℕ
along p k i F b = cond p (sum_below k (λ x. F (set_at b i x))) (F b)

-- functions that are equal at all points have equal sums along a coordinate
pub along-congr : (p : Bool) (k i : ℕ) (F G : (ℕ → ℕ) → ℕ) (b : ℕ → ℕ) → ((c : ℕ → ℕ) → F c ≡ G c) → along p k i F b ≡ along p k i G b
along-congr p k i F G b h = ap (λ H. along p k i H b) (fun_ext h)

pub along-mul : (p : Bool) (k i : ℕ) (F G : (ℕ → ℕ) → ℕ) (b : ℕ → ℕ) → (p ≡ true → (x : ℕ) → F (set_at b i x) ≡ F b) → along p k i (λ c. F c * G c) b
    ≡ F b * along p k i G b
along-mul true k i F G b h =
    sum_below-congr k (λ x. F (set_at b i x) * G (set_at b i x)) (λ x. F b * G (set_at b i x)) (λ x lt. ap (λ r. r * G (set_at b i x)) (h refl x))
    ∙ sum_below-mul k (F b) (λ x. G (set_at b i x))
along-mul false k i F G b h = refl

pub along-sum_below : (p : Bool) (k i l : ℕ) (F : ℕ → (ℕ → ℕ) → ℕ) (b : ℕ → ℕ) → along p k i (λ c. sum_below l (λ x. F x c)) b
    ≡ sum_below l (λ x. along p k i (F x) b)
along-sum_below true k i l F b = sum_below-swap k l (λ y x. F x (set_at b i y))
along-sum_below false k i l F b = refl

pub along-along : (p q : Bool) (k l i j : ℕ) (F : (ℕ → ℕ) → ℕ) (b : ℕ → ℕ) → (i ≡ j → ⊥) → along p k i (along q l j F) b ≡ along q l j (along p k i F) b
along-along true true k l i j F b ne =
    sum_below-swap k l (λ x y. F (set_at (set_at b i x) j y))
    ∙ sum_below-congr l (λ y. sum_below k (λ x. F (set_at (set_at b i x) j y))) (λ y. sum_below k (λ x. F (set_at (set_at b j y) i x)))
    (λ y lt. sum_below-congr k (λ x. F (set_at (set_at b i x) j y)) (λ x. F (set_at (set_at b j y) i x)) (λ x lt'. ap F (set_at-swap b i j x y ne)))
along-along true false k l i j F b ne = refl
along-along false q k l i j F b ne = refl

pub along-ignores : (p : Bool) (k i : ℕ) (F : (ℕ → ℕ) → ℕ) (b : ℕ → ℕ) (j y : ℕ) → (p ≡ true → i ≡ j → ⊥) → ((c : ℕ → ℕ) → F (set_at c j y) ≡ F c)
    → along p k i F (set_at b j y) ≡ along p k i F b
along-ignores true k i F b j y ne h =
    sum_below-congr k (λ x. F (set_at (set_at b j y) i x)) (λ x. F (set_at b i x)) (λ x lt. ap F (sym (set_at-swap b i j x y (ne refl))) ∙ h (set_at b i x))
along-ignores false k i F b j y ne h = h b

module _ (U : ℕ → Bool) (s : ℕ → ℕ) where
  -- functions that are equal at all points have equal sums over a box
  pub over-congr : (n : ℕ) (F G : (ℕ → ℕ) → ℕ) (b : ℕ → ℕ) → ((c : ℕ → ℕ) → F c ≡ G c) → sum_over U s n F b ≡ sum_over U s n G b
  over-congr n F G b h = ap (λ H. sum_over U s n H b) (fun_ext h)

  -- a factor that doesn't depend on the coordinates summed over comes outside
  pub over-mul : (n : ℕ) (F G : (ℕ → ℕ) → ℕ) (b : ℕ → ℕ) → Ignores n U F → sum_over U s n (λ c. F c * G c) b ≡ F b * sum_over U s n G b
  over-mul zero F G b h = refl
  over-mul (suc n) F G b h =
      along-congr (U n) (s n) n (sum_over U s n (λ c. F c * G c)) (λ c. F c * sum_over U s n G c) b (λ c. over-mul n F G c (weaken n U F h))
      ∙ along-mul (U n) (s n) n F (sum_over U s n G) b (λ e x. h b n x (omega arith) e)

  -- a sum inside comes outside
  pub over-sum_below : (n k : ℕ) (F : ℕ → (ℕ → ℕ) → ℕ) (b : ℕ → ℕ) → sum_over U s n (λ c. sum_below k (λ x. F x c)) b
      ≡ sum_below k (λ x. sum_over U s n (F x) b)
  over-sum_below zero k F b = refl
  over-sum_below (suc n) k F b =
      along-congr (U n) (s n) n (sum_over U s n (λ c. sum_below k (λ x. F x c))) (λ c. sum_below k (λ x. sum_over U s n (F x) c)) b
      (λ c. over-sum_below n k F c)
      ∙ along-sum_below (U n) (s n) n k (λ x. sum_over U s n (F x)) b

  -- a sum along a higher coordinate comes outside
  pub over-along : (n : ℕ) (p : Bool) (k i : ℕ) (F : (ℕ → ℕ) → ℕ) (b : ℕ → ℕ) → n ≤ i → sum_over U s n (along p k i F) b ≡ along p k i (sum_over U s n F) b
  over-along zero p k i F b le = refl
  over-along (suc n) p k i F b le =
      along-congr (U n) (s n) n (sum_over U s n (along p k i F)) (along p k i (sum_over U s n F)) b (λ c. over-along n p k i F c (omega arith))
      ∙ along-along (U n) p (s n) k n i (sum_over U s n F) b (λ e. omega arith)

  pub over-ignores : (n k : ℕ) (V : ℕ → Bool) (F : (ℕ → ℕ) → ℕ) → ((i : ℕ) → U i ≡ true → V i ≡ true → ⊥) → Ignores k V F → Ignores k V (sum_over U s n F)
  over-ignores zero k V F d h b j y lt e = h b j y lt e
  over-ignores (suc n) k V F d h b j y lt e =
      along-ignores (U n) (s n) n (sum_over U s n F) b j y (λ u same. d n u (rw same e)) (λ c. over-ignores n k V F d h c j y lt e)

  -- F is summed alone where the other factor does not depend on U
  pub over-mul-right : (n : ℕ) (F G : (ℕ → ℕ) → ℕ) (b : ℕ → ℕ) → Ignores n U G → sum_over U s n (λ c. F c * G c) b ≡ sum_over U s n F b * G b
  over-mul-right n F G b h = over-congr n (λ c. F c * G c) (λ c. G c * F c) b (λ c. omega arith) ∙ over-mul n G F b h ∙ omega arith

-- the sum over U and V, which are disjoint, is the sum over U of the sum over V
pub join-along : (p q : Bool) (k i : ℕ) (F : (ℕ → ℕ) → ℕ) (b : ℕ → ℕ) → (p ≡ true → q ≡ true → ⊥) → along (p || q) k i F b ≡ along p k i (along q k i F) b
join-along true true k i F b d = absurd (d refl refl)
join-along true false k i F b d = refl
join-along false q k i F b d = refl

-- a sum over two disjoint sets of coordinates is the sum over the first of the sum over the second
pub over-join : (U V : ℕ → Bool) (s : ℕ → ℕ) (n : ℕ) (F : (ℕ → ℕ) → ℕ) (b : ℕ → ℕ) → ((i : ℕ) → U i ≡ true → V i ≡ true → ⊥)
    → sum_over (λ i. U i || V i) s n F b ≡ sum_over U s n (sum_over V s n F) b
over-join U V s zero F b d = refl
over-join U V s (suc n) F b d =
    along-congr (U n || V n) (s n) n (sum_over (λ i. U i || V i) s n F) (sum_over U s n (sum_over V s n F)) b (λ c. over-join U V s n F c d)
    ∙ join-along (U n) (V n) (s n) n (sum_over U s n (sum_over V s n F)) b (d n)
    ∙ along-congr (U n) (s n) n (along (V n) (s n) n (sum_over U s n (sum_over V s n F))) (sum_over U s n (sum_over V s (suc n) F)) b
    (λ c. sym (over-along U s n (V n) (s n) n (sum_over V s n F) c (omega arith)))

-- the sum of a product of independent factors is the product of the sums
pub over-product : (U V : ℕ → Bool) (s : ℕ → ℕ) (n : ℕ) (F G : (ℕ → ℕ) → ℕ) (b : ℕ → ℕ) → ((i : ℕ) → U i ≡ true → V i ≡ true → ⊥) → Ignores n V F
    → Ignores n U G
    → sum_over (λ i. U i || V i) s n (λ c. F c * G c) b ≡ sum_over U s n F b * sum_over V s n G b
over-product U V s n F G b d f g =
    over-join U V s n (λ c. F c * G c) b d
    ∙ over-congr U s n (sum_over V s n (λ c. F c * G c)) (λ c. F c * sum_over V s n G c) b (λ c. over-mul V s n F G c f)
    ∙ over-mul-right U s n F (sum_over V s n G) b (over-ignores V s n n U G (λ i v u. d i u v) g)

-- two sums over boxes are exchanged
pub over-swap : (U V : ℕ → Bool) (s t : ℕ → ℕ) (n m : ℕ) (F : (ℕ → ℕ) → (ℕ → ℕ) → ℕ) (b c : ℕ → ℕ) → sum_over U s n (λ x. sum_over V t m (F x) c) b
    ≡ sum_over V t m (λ y. sum_over U s n (λ x. F x y) b) c
over-swap U V s t zero m F b c = refl
over-swap U V s t (suc n) m F b c =
    along-congr (U n) (s n) n (sum_over U s n (λ x. sum_over V t m (F x) c)) (λ b'. sum_over V t m (λ y. sum_over U s n (λ x. F x y) b') c) b
    (λ b'. over-swap U V s t n m F b' c)
    ∙ pull (U n)
  where
    pull : (p : Bool) → along p (s n) n (λ b'. sum_over V t m (λ y. sum_over U s n (λ x. F x y) b') c) b
        ≡ sum_over V t m (λ y. along p (s n) n (sum_over U s n (λ x. F x y)) b) c
    pull true = sym (over-sum_below V t m (s n) (λ x y. sum_over U s n (λ x'. F x' y) (set_at b n x)) c)
    pull false = refl

-- the terms of a sum are at points in the box that keep the coordinates from n on
pub over-congr_within : (U : ℕ → Bool) (s : ℕ → ℕ) (n : ℕ) (F G : (ℕ → ℕ) → ℕ) (b : ℕ → ℕ)
    → ((c : ℕ → ℕ) → ((i : ℕ) → i < n → U i ≡ true → c i < s i) → ((i : ℕ) → n ≤ i → c i ≡ b i) → F c ≡ G c) → sum_over U s n F b ≡ sum_over U s n G b
over-congr_within U s zero F G b h = h b (λ i lt e. absurd (omega arith)) (λ i le. refl)
over-congr_within U s (suc n) F G b h = go (U n) refl (λ c. over-congr_within U s n F G c)
  where
    at : (c : ℕ → ℕ) (i : ℕ) → i < suc n → (i < n → c i < s i) → c n < s n → c i < s i
    at c i lt below top = pick (eqb i n) refl
      where
        pick : (p : Bool) → eqb i n ≡ p → c i < s i
        pick true e = rw (eqb-true i n e) top
        pick false e = below (let d : i ≡ n → ⊥ = λ q. absurd (grind (arith, q, e)) in omega arith)

    go : (p : Bool) → U n ≡ p
        → ((c : ℕ → ℕ) → ((c' : ℕ → ℕ) → ((i : ℕ) → i < n → U i ≡ true → c' i < s i) → ((i : ℕ) → n ≤ i → c' i ≡ c i) → F c' ≡ G c') → sum_over U s n F c
        ≡ sum_over U s n G c)
        → along p (s n) n (sum_over U s n F) b ≡ along p (s n) n (sum_over U s n G) b
    go true e ih =
        sum_below-congr (s n) (λ x. sum_over U s n F (set_at b n x)) (λ x. sum_over U s n G (set_at b n x))
        (λ x lt. ih (set_at b n x) (λ c r same. h c
        (λ i il u. at c i il (λ b'. r i b' u) (rw (same n (omega arith) ∙ set_at-same b n x) lt))
        (λ i le. same i (omega arith) ∙ set_at-other b n x i (omega arith))))
    go false e ih =
        ih b (λ c r same. h c
        (λ i il u. r i (let d : i ≡ n → ⊥ = λ q. absurd (grind (arith, ap U q, u, e)) in omega arith) u)
        (λ i le. same i (omega arith)))

-- the base counts outside the summed coordinates alone
pub over-base : (U : ℕ → Bool) (s : ℕ → ℕ) (n : ℕ) (F : (ℕ → ℕ) → ℕ) (b c : ℕ → ℕ)
    → ((i : ℕ) → (i < n → U i ≡ true → ⊥) → b i ≡ c i) → sum_over U s n F b ≡ sum_over U s n F c
over-base U s zero F b c h = ap F (fun_ext (λ i. h i (λ lt. absurd (omega arith))))
over-base U s (suc n) F b c h = go (U n) refl (λ b' c' k. over-base U s n F b' c' k)
  where
    go : (p : Bool) → U n ≡ p → ((b' c' : ℕ → ℕ) → ((i : ℕ) → (i < n → U i ≡ true → ⊥) → b' i ≡ c' i) → sum_over U s n F b' ≡ sum_over U s n F c')
        → along p (s n) n (sum_over U s n F) b ≡ along p (s n) n (sum_over U s n F) c
    go true e ih =
        sum_below-congr (s n) (λ x. sum_over U s n F (set_at b n x)) (λ x. sum_over U s n F (set_at c n x))
        (λ x lt. ih (set_at b n x) (set_at c n x) (λ i out. at x i out (eqb i n) refl))
      where
        at : (x i : ℕ) → (i < n → U i ≡ true → ⊥) → (q : Bool) → eqb i n ≡ q → cond (eqb i n) x (b i) ≡ cond (eqb i n) x (c i)
        at x i out true f = rw f refl
        at x i out false f = rw f (h i (λ lt u. out (let d : i ≡ n → ⊥ = λ s. absurd (grind (arith, s, f)) in omega arith) u))
    go false e ih = ih b c (λ i out. h i (λ lt u. at i lt u out (eqb i n) refl))
      where
        at : (i : ℕ) → i < suc n → U i ≡ true → (i < n → U i ≡ true → ⊥) → (q : Bool) → eqb i n ≡ q → ⊥
        at i lt u out true f = let same : i ≡ n = eqb-true i n f in absurd (grind (arith, ap U same, u, e))
        at i lt u out false f = out (let d : i ≡ n → ⊥ = λ s. absurd (grind (arith, s, f)) in omega arith) u

-- a sum over a box is at least any of its terms
pub over-term : (U : ℕ → Bool) (s : ℕ → ℕ) (n : ℕ) (F : (ℕ → ℕ) → ℕ) (c : ℕ → ℕ) → ((i : ℕ) → i < n → U i ≡ true → c i < s i) → F c ≤ sum_over U s n F c
over-term U s zero F c h = omega arith
over-term U s (suc n) F c h = go (U n) refl (over-term U s n F c (λ i lt u. h i (omega arith) u))
  where
    go : (p : Bool) → U n ≡ p → F c ≤ sum_over U s n F c → F c ≤ along p (s n) n (sum_over U s n F) c
    go true e ih =
        omega (arith, ih, sum_below_term (s n) (λ x. sum_over U s n F (set_at c n x)) (c n) (h n (omega arith) e), ap (sum_over U s n F) (set_at-own c n))
    go false e ih = ih

-- the sum of sums is the sum of both
pub over-add : (U : ℕ → Bool) (s : ℕ → ℕ) (n : ℕ) (F G : (ℕ → ℕ) → ℕ) (b : ℕ → ℕ)
    → sum_over U s n (λ c. F c + G c) b ≡ sum_over U s n F b + sum_over U s n G b
over-add U s zero F G b = refl
over-add U s (suc n) F G b = go (U n) (over-add U s n F G)
  where
    go : (p : Bool) → ((c : ℕ → ℕ) → sum_over U s n (λ c. F c + G c) c ≡ sum_over U s n F c + sum_over U s n G c)
        → along p (s n) n (sum_over U s n (λ c. F c + G c)) b ≡ along p (s n) n (sum_over U s n F) b + along p (s n) n (sum_over U s n G) b
    go true ih =
        sum_below-congr (s n) (λ x. sum_over U s n (λ c. F c + G c) (set_at b n x))
        (λ x. sum_over U s n F (set_at b n x) + sum_over U s n G (set_at b n x)) (λ x lt. ih (set_at b n x))
        ∙ sum_below-add (s n) (λ x. sum_over U s n F (set_at b n x)) (λ x. sum_over U s n G (set_at b n x))
    go false ih = ih b

-- a constant factor comes outside
pub over-scale : (U : ℕ → Bool) (s : ℕ → ℕ) (n k : ℕ) (F : (ℕ → ℕ) → ℕ) (b : ℕ → ℕ) → sum_over U s n (λ c. k * F c) b ≡ k * sum_over U s n F b
over-scale U s n k F b = over-mul U s n (λ c. k) F b (λ c i x lt e. refl)

-- equal boxes have equal sums
pub over-sizes : (s t : ℕ → ℕ) (n : ℕ) (F : (ℕ → ℕ) → ℕ) (b : ℕ → ℕ) → ((i : ℕ) → i < n → s i ≡ t i)
    → sum_over (λ j. true) s n F b ≡ sum_over (λ j. true) t n F b
over-sizes s t zero F b h = refl
over-sizes s t (suc n) F b h =
    ap (λ k. sum_below k (λ x. sum_over (λ j. true) s n F (set_at b n x))) (h n (omega arith))
    ∙ sum_below-congr (t n) (λ x. sum_over (λ j. true) s n F (set_at b n x)) (λ x. sum_over (λ j. true) t n F (set_at b n x))
    (λ x lt. over-sizes s t n F (set_at b n x) (λ i l. h i (omega arith)))
