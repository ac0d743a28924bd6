-- Sums in which the noise is rare.
use Rattle.std.proofs.Common.{ℕ, zero, suc, ◌+◌, ◌*◌, ◌≡◌, ◌<◌, ◌≤◌, Bool, true, false, cond, eqb, refl, sym, ap, ◌∙◌, ◌&&◌, arith, eq-eqb, ne_eqb}
use mathlib.Core.Path.{fun_ext}
use Rattle.finite_models.specs.Vocabulary.{sum_below, product_below, sum_over, set_at, all_below}
use Rattle.finite_models.proofs.SumLaws.{along, sum_below-congr, sum_below-zero, set_at-same, over-congr_within}
use Rattle.finite_models.proofs.Indicators.{number}

over-nothing : (U : ℕ → Bool) (s : ℕ → ℕ) (n : ℕ) (b : ℕ → ℕ) → sum_over U s n (λ c. 0) b ≡ 0
over-nothing U s zero b = refl
over-nothing U s (suc n) b = go (U n) (over-nothing U s n)
  where
    go : (p : Bool) → ((b : ℕ → ℕ) → sum_over U s n (λ c. 0) b ≡ 0) → along p (s n) n (sum_over U s n (λ c. 0)) b ≡ 0
    go true ih = sum_below-congr (s n) (λ x. sum_over U s n (λ c. 0) (set_at b n x)) (λ x. 0) (λ x lt. ih (set_at b n x)) ∙ sum_below-zero (s n)
    go false ih = ih b

first_alone : (t : ℕ) (h : ℕ → ℕ) → ((i : ℕ) → h (suc i) ≡ 0) → sum_below (suc t) h ≡ h 0
first_alone zero h none = omega arith
first_alone (suc t) h none = omega (arith, first_alone t h none, none t)

-- the coordinates c + v for v below n are 0
abbrev pub quiet : (c n : ℕ) → (ℕ → ℕ) → Bool
quiet c n u = all_below n (λ v. eqb (u (c + v)) 0)

abbrev nowhere : ℕ → ℕ
nowhere j = 0

set_zero : (i : ℕ) → set_at nowhere i 0 ≡ nowhere
set_zero i = fun_ext (λ j. go (eqb j i))
  where
    go : (b : Bool) → ◌≡◌ {A = ℕ} (cond b 0 0) 0
    go true = refl
    go false = refl

drop : (f : ℕ) (p q : Bool) → q ≡ false → f * number (p && q) ≡ 0
drop f true q e = rw e (omega arith)
drop f false q e = omega arith

keep : (f : ℕ) (p q : Bool) → q ≡ true → f * number (p && q) ≡ f * number p
keep f true q e = rw e refl
keep f false q e = refl

-- sums over the quiet points are sums over the other coordinates
pub over-quiet : (s size : ℕ → ℕ) (c n N : ℕ) (F : (ℕ → ℕ) → ℕ) → N ≡ c + n → ((v : ℕ) → v < n → s (c + v) ≡ suc (size v))
    → sum_over (λ j. true) s N (λ u. F u * number (quiet c n u)) (λ j. 0) ≡ sum_over (λ j. true) s c F (λ j. 0)
over-quiet s size c zero N F len sizes =
    ap (λ t. sum_over (λ j. true) s t (λ u. F u * 1) (λ j. 0)) (let e : N ≡ c = omega (arith, len) in e)
    ∙ over-congr_within (λ j. true) s c (λ u. F u * 1) F (λ j. 0) (λ u h k. omega arith)
over-quiet s size c (suc n) zero F len sizes = absurd (omega (arith, len))
over-quiet s size c (suc n) (suc N) F len sizes =
    ap (λ t. sum_below t inner) (ap s same ∙ sizes n (omega arith))
    ∙ first_alone (size n) inner (λ i. over-congr_within (λ j. true) s N (λ u. F u * number (quiet c (suc n) u)) (λ u. 0) (set_at (λ j. 0) N (suc i))
    (λ u h k. drop (F u) (quiet c n u) (eqb (u (c + n)) 0)
    (ne_eqb (u (c + n)) 0 (let e = ap u (sym same) ∙ k N (omega arith) ∙ set_at-same (λ j. 0) N (suc i) in omega (arith, e))))
    ∙ over-nothing (λ j. true) s N (set_at (λ j. 0) N (suc i)))
    ∙ over-congr_within (λ j. true) s N (λ u. F u * number (quiet c (suc n) u)) (λ u. F u * number (quiet c n u)) (set_at (λ j. 0) N 0)
    (λ u h k. keep (F u) (quiet c n u) (eqb (u (c + n)) 0) (eq-eqb (u (c + n)) 0 (ap u (sym same) ∙ k N (omega arith) ∙ set_at-same (λ j. 0) N 0)))
    ∙ ap (sum_over (λ j. true) s N (λ u. F u * number (quiet c n u))) (set_zero N)
    ∙ over-quiet s size c n N F same (λ v lt. sizes v (omega arith))
  where
    same : N ≡ c + n
    same = omega (arith, len)

    inner : ℕ → ℕ
    inner x = sum_over (λ j. true) s N (λ u. F u * number (quiet c (suc n) u)) (set_at (λ j. 0) N x)

-- ---- the weight of the noise
abbrev pub noise_weight : (k n : ℕ) → (ℕ → ℕ) → ℕ
noise_weight k n f = product_below n (λ v. cond (eqb (f v) 0) k 1)

abbrev pub scale_of : (k n : ℕ) → ℕ
scale_of k n = product_below n (λ v. k)

pub scale-some : (k n : ℕ) → 1 ≤ k → 1 ≤ scale_of k n
scale-some k zero some = omega arith
scale-some k (suc n) some = go (scale_of k n) (scale-some k n some)
  where
    go : (a : ℕ) → 1 ≤ a → 1 ≤ a * k
    go a le = grind (arith, le, some)

pub noise-quiet : (k n : ℕ) (f : ℕ → ℕ) → all_below n (λ v. eqb (f v) 0) ≡ true → noise_weight k n f ≡ scale_of k n
noise-quiet k zero f e = refl
noise-quiet k (suc n) f e = grow (all_below n (λ v. eqb (f v) 0)) (eqb (f n) 0) e (noise-quiet k n f)
  where
    grow : (p q : Bool) → (p && q) ≡ true → (p ≡ true → noise_weight k n f ≡ scale_of k n) → noise_weight k n f * cond q k 1 ≡ scale_of k n * k
    grow true true e ih = ap (λ t. t * k) (ih refl)
    grow true false e ih = absurd (grind (arith, e))
    grow false q e ih = absurd (grind (arith, e))

grown : (a b c k : ℕ) → a ≤ b → c ≤ k → a * c ≤ b * k
grown a b c k le le' = grind (arith, le, le')

pub noise-most : (k n : ℕ) (f : ℕ → ℕ) → 1 ≤ k → noise_weight k n f ≤ scale_of k n
noise-most k zero f some = omega arith
noise-most k (suc n) f some = grown (noise_weight k n f) (scale_of k n) (cond (eqb (f n) 0) k 1) k (noise-most k n f some) (go (eqb (f n) 0))
  where
    go : (q : Bool) → cond q k 1 ≤ k
    go true = omega arith
    go false = some

pub noise-less : (k n : ℕ) (f : ℕ → ℕ) → 1 ≤ k → all_below n (λ v. eqb (f v) 0) ≡ false → k * noise_weight k n f ≤ scale_of k n
noise-less k zero f some e = absurd (grind (arith, e))
noise-less k (suc n) f some e = go (all_below n (λ v. eqb (f v) 0)) (eqb (f n) 0) e (noise-less k n f some)
  where
    turn : (a b k : ℕ) → k * a ≤ b → k * (a * k) ≤ b * k
    turn a b k le = omega (arith, grown (k * a) b k k le (omega arith))

    same : (a b k : ℕ) → a ≤ b → k * (a * 1) ≤ b * k
    same a b k le = grind (arith, le)

    go : (p q : Bool) → (p && q) ≡ false → (p ≡ false → k * noise_weight k n f ≤ scale_of k n) → k * (noise_weight k n f * cond q k 1) ≤ scale_of k n * k
    go true true e ih = absurd (grind (arith, e))
    go true false e ih = same (noise_weight k n f) (scale_of k n) k (noise-most k n f some)
    go false true e ih = turn (noise_weight k n f) (scale_of k n) k (ih refl)
    go false false e ih = same (noise_weight k n f) (scale_of k n) k (noise-most k n f some)

-- with noise of weight n a world of weight w counts at least as without, where no noise is, and at most a k-th more
pub count-least : (w n scale : ℕ) (q e f : Bool) → (q ≡ true → n ≡ scale) → (q ≡ true → e ≡ f) → scale * (cond f w 0 * number q) ≤ cond e (w * n) 0
count-least w n scale true true f h k = rw (h refl, sym (k refl)) (omega arith)
count-least w n scale true false f h k = rw (sym (k refl)) (omega arith)
count-least w n scale false e f h k = let z : scale * (cond f w 0 * 0) ≡ 0 = omega arith in omega (arith, z)

scaled_up : (w n k scale : ℕ) → k * n ≤ scale → k * (w * n) ≤ scale * (k * 0 + w)
scaled_up w n k scale le = omega (arith, grown (k * n) scale w w le (omega arith))

full : (w n k scale : ℕ) → n ≡ scale → k * (w * n) ≤ scale * (k * (w * 1) + w)
full w n k scale e = rw e (grind arith)

pub count-most : (w n k scale : ℕ) (q e f : Bool) → (q ≡ true → n ≡ scale) → (q ≡ false → k * n ≤ scale) → (q ≡ true → e ≡ f)
    → k * cond e (w * n) 0 ≤ scale * (k * (cond f w 0 * number q) + w)
count-most w n k scale true true true h l t = full w n k scale (h refl)
count-most w n k scale true true false h l t = absurd (grind (arith, t refl))
count-most w n k scale true false f h l t = omega arith
count-most w n k scale false true true h l t = rw (let z : w * 0 ≡ 0 = omega arith in z) (scaled_up w n k scale (l refl))
count-most w n k scale false true false h l t = scaled_up w n k scale (l refl)
count-most w n k scale false false f h l t = omega arith
