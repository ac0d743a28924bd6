-- The effect as a sum over what may have been observed of x.
use Rattle.std.proofs.Common.{ℕ, zero, suc, ◌*◌, ◌≡◌, Bool, true, false, cond, refl, ap, ◌∙◌, ◌&&◌, arith}
use Rattle.finite_models.specs.Vocabulary.{sum_over, solution, agree, world_weight, intervene}
use Rattle.finite_models.proofs.Following.{follows_of}
use Rattle.finite_models.proofs.Indicators.{number, matches, agree-matches, over-matches}
use Rattle.finite_models.proofs.Solutions.{solution_within}
use Rattle.finite_models.proofs.SumLaws.{over-congr, over-congr_within, over-swap, over-mul}
use Rattle.treated_models.specs.Treated.{is_both, weight_of_both, EffectIsSum}

parts : (p q : Bool) (w : ℕ) → cond (p && q) w 0 ≡ (w * number p) * number q
parts true true w = omega arith
parts true false w = omega arith
parts false q w = omega arith

none_asked : (n : ℕ) (t b : ℕ → ℕ) → matches n (λ v. false) t b ≡ 1
none_asked zero t b = refl
none_asked (suc n) t b = ap (λ r. r * 1) (none_asked n t b)

one_more : (w : ℕ) (p : Bool) → (w * number p) * 1 ≡ cond p w 0
one_more w true = omega arith
one_more w false = omega arith

pub effect_is_sum : EffectIsSum
effect_is_sum g ok m fit x y s =
    over-congr x m.size m.vertices (λ t. weight_of_both m x y x s t)
    (λ t. sum_over (λ j. true) m.values m.causes (λ u. each u * matches m.vertices x (solution m u) t) (λ j. 0)) s
    (λ t. over-congr (λ j. true) m.values m.causes (λ u. cond (is_both m x y x s t u) (world_weight m u) 0)
    (λ u. each u * matches m.vertices x (solution m u) t) (λ j. 0)
    (λ u. parts (seen u) (agree m.vertices x (solution m u) t) (world_weight m u) ∙ ap (λ r. each u * r) (agree-matches m.vertices x (solution m u) t)))
    ∙ over-swap x (λ j. true) m.size m.values m.vertices m.causes (λ t u. each u * matches m.vertices x (solution m u) t) s (λ j. 0)
    ∙ over-congr_within (λ j. true) m.values m.causes (λ u. sum_over x m.size m.vertices (λ t. each u * matches m.vertices x (solution m u) t) s)
    (λ u. cond (seen u) (world_weight m u) 0) (λ j. 0)
    (λ u inside same. over-mul x m.size m.vertices (λ t. each u) (matches m.vertices x (solution m u)) s (λ b i z lt e. refl)
    ∙ ap (λ r. each u * r) (over-matches x (λ v. false) m.size (solution m u) m.vertices s
    (solution_within g m (follows_of g m fit) u (λ j jl. inside j jl refl)) (λ v e q. absurd (grind (arith, e))) ∙ none_asked m.vertices (solution m u) s)
    ∙ one_more (world_weight m u) (seen u))
  where
    seen : (ℕ → ℕ) → Bool
    seen u = agree m.vertices y (solution (intervene m x s) u) s

    each : (ℕ → ℕ) → ℕ
    each u = world_weight m u * number (seen u)
