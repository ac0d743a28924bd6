-- Two models that differ on the effect differ on it among some of the observed.
use Rattle.std.proofs.Common.{ℕ, zero, suc, ◌*◌, ◌≡◌, ◌<◌, Bool, true, false, cond, refl, sym, ap, ◌∙◌, arith}
use Rattle.finite_models.specs.Vocabulary.{sum_below, sum_over, set_at, total}
use Rattle.finite_models.proofs.SumLaws.{sum_below-congr, over-scale}
use Rattle.treated_models.specs.Treated.{weight_of_both, AmongFixesEffect}
use Rattle.treated_models.proofs.Product.{over-congr_assigned}
use Rattle.treated_models.proofs.Sum.{effect_is_sum}

flipped : (a b : ℕ) → a * b ≡ b * a
flipped a b = omega arith

-- equal sizes make equal sums
resized : (U : ℕ → Bool) (s t : ℕ → ℕ) (n : ℕ) (F : (ℕ → ℕ) → ℕ) (b : ℕ → ℕ) → ((i : ℕ) → i < n → s i ≡ t i) → sum_over U s n F b ≡ sum_over U t n F b
resized U s t zero F b h = refl
resized U s t (suc n) F b h = go (U n) (λ c. resized U s t n F c (λ i il. h i (omega arith)))
  where
    go : (p : Bool) → ((c : ℕ → ℕ) → sum_over U s n F c ≡ sum_over U t n F c)
        → cond p (sum_below (s n) (λ x. sum_over U s n F (set_at b n x))) (sum_over U s n F b)
        ≡ cond p (sum_below (t n) (λ x. sum_over U t n F (set_at b n x))) (sum_over U t n F b)
    go true ih = sum_below-congr (s n) (λ x. sum_over U s n F (set_at b n x)) (λ x. sum_over U t n F (set_at b n x)) (λ x lt. ih (set_at b n x))
        ∙ ap (λ k. sum_below k (λ x. sum_over U t n F (set_at b n x))) (h n (omega arith))
    go false ih = ih b

pub among_fixes_effect : AmongFixesEffect
among_fixes_effect g h okg okh m₁ m₂ fit₁ fit₂ same sizes x y s within equal =
    ap (λ w. w * total m₂) (sym (effect_is_sum g okg m₁ fit₁ x y s))
    ∙ flipped (sum_over x m₁.size m₁.vertices (λ t. weight_of_both m₁ x y x s t) s) (total m₂)
    ∙ sym (over-scale x m₁.size m₁.vertices (total m₂) (λ t. weight_of_both m₁ x y x s t) s)
    ∙ over-congr_assigned x m₁.size m₁.vertices m₁.vertices (omega arith) (λ t. total m₂ * weight_of_both m₁ x y x s t)
    (λ t. total m₁ * weight_of_both m₂ x y x s t) s within
    (λ t inside. flipped (total m₂) (weight_of_both m₁ x y x s t) ∙ equal t inside ∙ flipped (weight_of_both m₂ x y x s t) (total m₁))
    ∙ over-scale x m₁.size m₁.vertices (total m₁) (λ t. weight_of_both m₂ x y x s t) s
    ∙ flipped (total m₁) (sum_over x m₁.size m₁.vertices (λ t. weight_of_both m₂ x y x s t) s)
    ∙ ap (λ w. w * total m₁) (resized x m₁.size m₂.size m₁.vertices (λ t. weight_of_both m₂ x y x s t) s sizes
    ∙ ap (λ n. sum_over x m₂.size n (λ t. weight_of_both m₂ x y x s t) s) same
    ∙ effect_is_sum h okh m₂ fit₂ x y s)
