-- Sums over names as sums over vertices, and events at equal values.
use Rattle.std.proofs.Common.{ℕ, zero, suc, ◌≡◌, ◌<◌, ◌≤◌, Bool, true, false, cond, refl, sym, ap, ◌∙◌, arith, inl, inr, ◌⊎◌}
use Rattle.std.proofs.lemmas.Bool.{cases_eq}
use Rattle.mixed_graph.specs.Vocabulary.{has}
use Rattle.finite_models.specs.Vocabulary.{sum_below, sum_over, set_at, FiniteModel, event_weight, solution, agree, world_weight}
use Rattle.finite_models.proofs.Bools.{same_truth}
use Rattle.finite_models.proofs.Solutions.{agree_from, agree_gives}
use Rattle.finite_models.proofs.SumLaws.{over-congr, sum_below-congr}
use Rattle.fractions.specs.Vocabulary.{Fraction}
use Rattle.prob_expr.specs.Vocabulary.{add_over}
use Rattle.treated_models.specs.Vocabulary.{as_observed, vertex_of}
use Rattle.treated_models.proofs.Primes.{observed_set, vertex_plain}

-- coordinates that aren't summed don't count
pub sum_below_names : (u : ℕ → Bool) (size : ℕ → ℕ) (n N : ℕ) → n ≤ N → ((i : ℕ) → n ≤ i → u i ≡ false) → (f : (ℕ → ℕ) → ℕ) (b : ℕ → ℕ)
    → sum_over u size N f b ≡ sum_over u size n f b
sum_below_names u size n zero le out f b = let e : n ≡ 0 = omega (arith, le) in rw e refl
sum_below_names u size n (suc N) le out f b = go (cases_eq n (suc N)) (λ l. sum_below_names u size n N l out f b)
  where
    go : (n ≡ suc N) ⊎ (n ≡ suc N → ⊥) → (n ≤ N → sum_over u size N f b ≡ sum_over u size n f b)
        → cond (u N) (sum_below (size N) (λ z. sum_over u size N f (set_at b N z))) (sum_over u size N f b)
        ≡ sum_over u size n f b
    go (inl e) ih = rw e refl
    go (inr d) ih = let l : n ≤ N = omega (arith, le, d) in let q : u N ≡ false = out N l in rw q (ih l)

-- nothing summed
pub add_none : (u : ℕ → Bool) (size : ℕ → ℕ) (n : ℕ) → ((i : ℕ) → u i ≡ false) → (f : (ℕ → ℕ) → Fraction) (b : ℕ → ℕ) → add_over u size n f b ≡ f b
add_none u size zero none f b = refl
add_none u size (suc n) none f b = let q : u n ≡ false = none n in rw q (add_none u size n none f b)

-- a sum over the own names of vertices outside x, of what is taken at the values as observed
pub sum_observed : (n x : ℕ) (u : ℕ → Bool) (size : ℕ → ℕ) → ((i : ℕ) → u i ≡ true → has x i ≡ false) → (k : ℕ) → k ≤ n → (f : (ℕ → ℕ) → ℕ) (b : ℕ → ℕ)
    → sum_over u (λ i. size (vertex_of n x i)) k (λ c. f (as_observed n x c)) b ≡ sum_over u size k f (as_observed n x b)
sum_observed n x u size out zero le f b = refl
sum_observed n x u size out (suc k) le f b = go (u k) refl (λ c. sum_observed n x u size out k (omega (arith, le)) f c)
  where
    go : (v : Bool) → u k ≡ v → ((c : ℕ → ℕ)
        → sum_over u (λ i. size (vertex_of n x i)) k (λ c. f (as_observed n x c)) c ≡ sum_over u size k f (as_observed n x c))
        → cond v (sum_below (size (vertex_of n x k)) (λ z. sum_over u (λ i. size (vertex_of n x i)) k (λ c. f (as_observed n x c)) (set_at b k z)))
        (sum_over u (λ i. size (vertex_of n x i)) k (λ c. f (as_observed n x c)) b)
        ≡ cond v (sum_below (size k) (λ z. sum_over u size k f (set_at (as_observed n x b) k z))) (sum_over u size k f (as_observed n x b))
    go true e ih =
        ap (λ j. sum_below (size j) (λ z. sum_over u (λ i. size (vertex_of n x i)) k (λ c. f (as_observed n x c)) (set_at b k z)))
        (vertex_plain n x k (omega (arith, le)))
        ∙ sum_below-congr (size k) (λ z. sum_over u (λ i. size (vertex_of n x i)) k (λ c. f (as_observed n x c)) (set_at b k z))
        (λ z. sum_over u size k f (set_at (as_observed n x b) k z))
        (λ z lt. ih (set_at b k z) ∙ ap (sum_over u size k f) (observed_set n x b k z (omega (arith, le)) (out k e)))
    go false e ih = ih b

-- the weight of an event reads the values of its vertices alone
pub event_reads : (m : FiniteModel) (a : ℕ → Bool) (s t : ℕ → ℕ) → ((v : ℕ) → v < m.vertices → a v ≡ true → s v ≡ t v) → event_weight m a s ≡ event_weight m a t
event_reads m a s t same =
    over-congr (λ j. true) m.values m.causes (λ u. cond (agree m.vertices a (solution m u) s) (world_weight m u) 0)
    (λ u. cond (agree m.vertices a (solution m u) t) (world_weight m u) 0) (λ j. 0)
    (λ u. ap (λ b. cond b (world_weight m u) 0) (same_truth (agree m.vertices a (solution m u) s) (agree m.vertices a (solution m u) t)
    (λ e. agree_from m.vertices a (solution m u) t (λ v il i. agree_gives m.vertices a (solution m u) s e v il i ∙ same v il i))
    (λ e. agree_from m.vertices a (solution m u) s (λ v il i. agree_gives m.vertices a (solution m u) t e v il i ∙ sym (same v il i)))))
