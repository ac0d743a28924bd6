-- Sums of weights over the values of a set.
use Rattle.std.proofs.Common.{ℕ, zero, suc, ◌+◌, ◌-◌, ◌*◌, ◌≡◌, ◌<◌, ◌≤◌, Bool, true, false, cond, eqb, refl, ap, ap₂, ◌∙◌, ◌&&◌, ◌||◌, arith}
use Rattle.std.proofs.Math.Nat.{eq_of_mul-eq-mul_left}
use mathlib.Core.Path.{fun_ext}
use Rattle.mixed_graph.specs.Vocabulary.{MixedGraph, IsMixedGraph}
use Rattle.finite_models.specs.Vocabulary.{sum_over, set_at, FiniteModel, Fits, IsAssignment, intervene, event_weight, weight_of, agree, solution, world_weight}
use Rattle.finite_models.proofs.Bools.{not_both}
use Rattle.finite_models.proofs.Factors.{marginal}
use Rattle.finite_models.proofs.Following.{follows_of, follows_intervene, intervene_alike}
use Rattle.finite_models.proofs.Ranks.{with_rank}
use Rattle.finite_models.proofs.SumLaws.{along, sum_below-congr, set_at-swap, over-congr}
use Rattle.counter_models.proofs.Counting.{over-congr_box}

agree_second : (n : ℕ) (a : ℕ → Bool) (r s t : ℕ → ℕ) → ((v : ℕ) → a v ≡ true → s v ≡ t v) → agree n a r s ≡ agree n a r t
agree_second zero a r s t h = refl
agree_second (suc n) a r s t h = ap₂ (λ p q. p && q) (agree_second n a r s t h) (go (a n) refl)
  where
    go : (b : Bool) → a n ≡ b → cond (a n) (eqb (r n) (s n)) true ≡ cond (a n) (eqb (r n) (t n)) true
    go true e = ap (λ k. cond (a n) (eqb (r n) k) true) (h n e)
    go false e = rw e refl

-- a weight reads the sets that it speaks of alone
pub weight_reads : (m : FiniteModel) (x a : ℕ → Bool) (s t : ℕ → ℕ) → ((v : ℕ) → x v ≡ true → s v ≡ t v) → ((v : ℕ) → a v ≡ true → s v ≡ t v)
    → weight_of m x a s ≡ weight_of m x a t
weight_reads m x a s t hx ha =
    ap (λ k. event_weight k a s) (intervene_alike m x s t hx)
    ∙ over-congr (λ j. true) m.values m.causes (λ u. cond (agree m.vertices a (solution (intervene m x t) u) s) (world_weight m u) 0)
    (λ u. cond (agree m.vertices a (solution (intervene m x t) u) t) (world_weight m u) 0) (λ j. 0)
    (λ u. ap (λ p. cond p (world_weight m u) 0) (agree_second m.vertices a (solution (intervene m x t) u) s t ha))

-- summed over y, the weight of y and z is that of z
pub sum_weight : (g : MixedGraph) → IsMixedGraph g → (m : FiniteModel) → Fits g m → (x y z : ℕ → Bool) → ((v : ℕ) → x v ≡ true → y v ≡ true → ⊥)
    → ((v : ℕ) → z v ≡ true → y v ≡ true → ⊥) → (s : ℕ → ℕ) → IsAssignment m.vertices m.size s
    → sum_over y m.size m.vertices (weight_of m x (λ v. y v || z v)) s ≡ weight_of m x z s
sum_weight g ok m fit x y z x_y z_y s within =
    over-congr_box y m.size m.vertices (weight_of m x (λ v. y v || z v)) (event_weight (intervene m x s) (λ v. z v || y v)) s
    (λ t low same. ap₂ (λ k a. event_weight k a t) (intervene_alike m x t s (λ v e. same v (λ lt i. x_y v e i))) (fun_ext (λ v. turn (y v) (z v))))
    ∙ with_rank g ok (sum_over y m.size m.vertices (event_weight (intervene m x s) (λ v. z v || y v)) s) (event_weight (intervene m x s) z s)
    (λ rank ranked. marginal g (intervene m x s) rank ranked (follows_intervene g m x s within (follows_of g m fit)) z y s z_y)
  where
    turn : (p r : Bool) → (p || r) ≡ (r || p)
    turn true true = refl
    turn true false = refl
    turn false true = refl
    turn false false = refl

-- a value that isn't summed over may be set before or after
pub over-set : (U : ℕ → Bool) (k : ℕ → ℕ) (n : ℕ) (F : (ℕ → ℕ) → ℕ) (b : ℕ → ℕ) (w i : ℕ) → U w ≡ false
    → sum_over U k n (λ c. F (set_at c w i)) b ≡ sum_over U k n F (set_at b w i)
over-set U k zero F b w i out = refl
over-set U k (suc n) F b w i out = go (U n) refl (λ c. over-set U k n F c w i out)
  where
    go : (p : Bool) → U n ≡ p → ((c : ℕ → ℕ) → sum_over U k n (λ c'. F (set_at c' w i)) c ≡ sum_over U k n F (set_at c w i))
        → along p (k n) n (sum_over U k n (λ c. F (set_at c w i))) b ≡ along p (k n) n (sum_over U k n F) (set_at b w i)
    go true e ih = sum_below-congr (k n) (λ y. sum_over U k n (λ c. F (set_at c w i)) (set_at b n y)) (λ y. sum_over U k n F (set_at (set_at b w i) n y))
        (λ y lt. ih (set_at b n y) ∙ ap (sum_over U k n F) (set_at-swap b n w y i (λ same. not_both (U n) e (ap U same ∙ out))))
    go false e ih = ih b

-- ---- numbers
-- two products that are equal up to different factors
apart_factors : (X Y p r : ℕ) → r < p → X * p + Y * r ≡ Y * p + X * r → X ≡ Y
apart_factors X Y p r lt e = go (p - r) (let q : p ≡ r + (p - r) = omega (arith, lt) in q) (let q : 1 ≤ p - r = omega (arith, lt) in q)
  where
    go : (d : ℕ) → p ≡ r + d → 1 ≤ d → X ≡ Y
    go d q pos = eq_of_mul-eq-mul_left d pos X Y (cut (X * p) (Y * r) (Y * p) (X * r) (d * X) (d * Y) (ap (λ k. X * k) q ∙ omega arith)
        (ap (λ k. Y * k) q ∙ omega arith) e)
      where
        cut : (a b c f dx dy : ℕ) → a ≡ f + dx → c ≡ b + dy → a + b ≡ c + f → dx ≡ dy
        cut a b c f dx dy h i j = omega (arith, h, i, j)

-- Bayes: two ratios of the same mixtures are equal only where the mixed have the same odds
pub odds_from : (α β α' β' h₁ k₁ h₀ k₀ : ℕ) → k₁ * h₀ < h₁ * k₀ → (β * h₁ + α * k₁) * (β' * h₀ + α' * k₀) ≡ (β' * h₁ + α' * k₁) * (β * h₀ + α * k₀)
    → β * α' ≡ α * β'
odds_from α β α' β' h₁ k₁ h₀ k₀ lt e =
    apart_factors (β * α') (α * β') (h₁ * k₀) (k₁ * h₀) lt
    (cut ((β * h₁ + α * k₁) * (β' * h₀ + α' * k₀)) ((β' * h₁ + α' * k₁) * (β * h₀ + α * k₀)) ((β * β') * (h₁ * h₀)) ((α * α') * (k₁ * k₀))
    ((β * α') * (h₁ * k₀)) ((α * β') * (k₁ * h₀)) ((α * β') * (h₁ * k₀)) ((β * α') * (k₁ * h₀))
    (omega arith) (omega arith) e)
  where
    cut : (l r a b c d f i : ℕ) → l ≡ a + b + c + d → r ≡ a + b + f + i → l ≡ r → c + d ≡ f + i
    cut l r a b c d f i p q e = omega (arith, p, q, e)
