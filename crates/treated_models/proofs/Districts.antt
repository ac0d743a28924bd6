-- The factors of districts multiply.
use Rattle.std.proofs.Common.{ℕ, zero, suc, ◌*◌, ◌^◌, ◌≡◌, ◌<◌, true, false, refl, ap, ◌∙◌, [], ◌∷◌, length, arith}
use native.Mathlib.Nat.{pow-zero, pow-suc}
use Rattle.std.proofs.lemmas.Bool.{false_from_ne_true}
use Rattle.mixed_graph.specs.Vocabulary.{has}
use Rattle.finite_models.specs.Vocabulary.{product_below, FiniteModel, world_weight, total}
use Rattle.finite_models.proofs.SumLaws.{over-congr}
use Rattle.treated_models.specs.Treated.{factor_of, factors_of, obeyed, is_in, DistrictsMultiply}
use Rattle.treated_models.proofs.Apart.{apart_sets_multiply}

ones : (n : ℕ) (f : ℕ → ℕ) → ((i : ℕ) → i < n → f i ≡ 1) → product_below n f ≡ 1
ones zero f h = refl
ones (suc n) f h = rw (ones n f (λ i lt. h i (omega arith)), h n (omega arith)) refl

-- nobody need obey: each world counts
no_one : (m : FiniteModel) (s : ℕ → ℕ) → factor_of m (λ v. false) s ≡ total m
no_one m s = over-congr (λ j. true) m.values m.causes (λ u. world_weight m u * obeyed m (λ v. false) s u) (world_weight m) (λ j. 0)
    (λ u. ap (λ r. world_weight m u * r) (ones m.vertices (λ v. 1) (λ i lt. refl)) ∙ (let e : world_weight m u * 1 ≡ world_weight m u = omega arith in e))

turn : (a t p f r : ℕ) → a * t ≡ f * r → a * (p * t) ≡ f * (r * p)
turn a t p f r e = let l : a * (p * t) ≡ (a * t) * p = omega arith in let q : (f * r) * p ≡ f * (r * p) = omega arith in l ∙ ap (λ y. y * p) e ∙ q

swap : (f t r : ℕ) → f * (t * r) ≡ t * (f * r)
swap f t r = omega arith

pub districts_multiply : DistrictsMultiply
districts_multiply g m fit [] apart s =
    ap (λ p. factor_of m (λ v. false) s * p) (pow-zero (total m)) ∙ ap (λ p. p * 1) (no_one m s)
districts_multiply g m fit (t ∷ ts) apart s =
    ap (λ p. factor_of m (is_in (t ∷ ts)) s * p) (pow-suc (total m) (length ts))
    ∙ turn (factor_of m (is_in (t ∷ ts)) s) (total m) (total m ^ length ts) (factor_of m (has t) s) (factor_of m (is_in ts) s)
    (apart_sets_multiply g m fit (has t) (is_in ts) (λ v e. false_from_ne_true (is_in ts v) (λ i. (apart.0 v v e i).0 refl))
    (λ u v e i. (apart.0 u v e i).1) s)
    ∙ ap (λ p. factor_of m (has t) s * p) (districts_multiply g m fit ts apart.1 s)
    ∙ swap (factor_of m (has t) s) (total m) (factors_of m ts s)
