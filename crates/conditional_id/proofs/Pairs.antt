-- Sums over the worlds of two models together.
use Rattle.std.proofs.Common.{ℕ, zero, suc, ◌+◌, ◌*◌, ◌≡◌, ◌<◌, ◌≤◌, Bool, true, false, cond, eqb, refl, sym, ap, ap₂, ◌∙◌, arith, eqb-true, ne_eqb}
use mathlib.Core.Path.{fun_ext}
use Rattle.finite_models.specs.Vocabulary.{sum_below, sum_over, set_at}
use Rattle.finite_models.proofs.SumLaws.{sum_below-congr, sum_below-mul, over-mul-right, set_at-other, over-sizes}

-- G reads the coordinates below c alone
abbrev pub IsLocal : ℕ → ((ℕ → ℕ) → ℕ) → Type 0
IsLocal c G = (u u' : ℕ → ℕ) → ((i : ℕ) → i < c → u i ≡ u' i) → G u ≡ G u'

set_both : (b b' : ℕ → ℕ) (n x i : ℕ) → (eqb i n ≡ false → b i ≡ b' i) → set_at b n x i ≡ set_at b' n x i
set_both b b' n x i h = go (eqb i n) refl
  where
    go : (e : Bool) → eqb i n ≡ e → cond (eqb i n) x (b i) ≡ cond (eqb i n) x (b' i)
    go true e = rw e refl
    go false e = rw e (h e)

pub over-local : (s : ℕ → ℕ) (c n : ℕ) (G : (ℕ → ℕ) → ℕ) → IsLocal c G → n ≤ c → (b b' : ℕ → ℕ) → ((i : ℕ) → n ≤ i → i < c → b i ≡ b' i)
    → sum_over (λ j. true) s n G b ≡ sum_over (λ j. true) s n G b'
over-local s c zero G l le b b' h = l b b' (λ i lt. h i (omega arith) lt)
over-local s c (suc n) G l le b b' h = sum_below-congr (s n) (λ x. sum_over (λ j. true) s n G (set_at b n x)) (λ x. sum_over (λ j. true) s n G (set_at b' n x))
    (λ x lt. over-local s c n G l (omega arith) (set_at b n x) (set_at b' n x)
    (λ i ge il. set_both b b' n x i (λ e. h i (let d : i ≡ n → ⊥ = λ r. absurd (grind (arith, r, e)) in omega arith) il)))

-- a product of a part of the first coordinates and one of the others
pub over-pair : (W s t : ℕ → ℕ) (c n N : ℕ) → N ≡ c + n → ((i : ℕ) → i < c → W i ≡ s i) → ((i : ℕ) → i < n → W (c + i) ≡ t i) → (G H : (ℕ → ℕ) → ℕ)
    → IsLocal c G → (b v : ℕ → ℕ) → ((i : ℕ) → v i ≡ b (c + i))
    → sum_over (λ j. true) W N (λ u. G u * H (λ i. u (c + i))) b ≡ sum_over (λ j. true) s c G b * sum_over (λ j. true) t n H v
over-pair W s t c zero N len low high G H l b v at =
    ap (λ k. sum_over (λ j. true) W k (λ u. G u * H (λ i. u (c + i))) b) (let e : N ≡ c = omega (arith, len) in e)
    ∙ over-mul-right (λ j. true) W c G (λ u. H (λ i. u (c + i))) b (λ u i x lt e. ap H (fun_ext (λ k. set_at-other u i x (c + k) (λ r. absurd (omega arith)))))
    ∙ ap₂ (λ p r. p * H r) (over-sizes W s c G b low) (fun_ext (λ i. sym (at i)))
over-pair W s t c (suc n) zero len low high G H l b v at = absurd (omega (arith, len))
over-pair W s t c (suc n) (suc N) len low high G H l b v at =
    ap (λ k. sum_below k (λ x. sum_over (λ j. true) W N (λ u. G u * H (λ i. u (c + i))) (set_at b N x))) (ap W same ∙ high n (omega arith))
    ∙ sum_below-congr (t n) (λ x. sum_over (λ j. true) W N (λ u. G u * H (λ i. u (c + i))) (set_at b N x))
    (λ x. sum_over (λ j. true) s c G b * sum_over (λ j. true) t n H (set_at v n x))
    (λ x lt. over-pair W s t c n N same low (λ i il. high i (omega arith)) G H l (set_at b N x) (set_at v n x) (λ i. shifted x i)
    ∙ ap (λ p. p * sum_over (λ j. true) t n H (set_at v n x)) (over-local s c c G l (omega arith) (set_at b N x) b (λ i ge il. absurd (omega arith))))
    ∙ sum_below-mul (t n) (sum_over (λ j. true) s c G b) (λ x. sum_over (λ j. true) t n H (set_at v n x))
  where
    same : N ≡ c + n
    same = omega (arith, len)

    shifted : (x i : ℕ) → set_at v n x i ≡ set_at b N x (c + i)
    shifted x i = go (eqb i n) refl
      where
        go : (e : Bool) → eqb i n ≡ e → cond (eqb i n) x (v i) ≡ cond (eqb (c + i) N) x (b (c + i))
        go true e = let k : c + i ≡ N = omega (arith, same, eqb-true i n e) in rw (e, k, own N) refl
          where
            own : (k : ℕ) → eqb k k ≡ true
            own k = grind arith
        go false e = let k : eqb (c + i) N ≡ false = ne_eqb (c + i) N
            (λ r. (let d : i ≡ n → ⊥ = λ z. absurd (grind (arith, z, e)) in d (omega (arith, same, r)))) in rw (e, k) (at i)
