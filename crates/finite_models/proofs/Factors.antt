-- The weight of an event on a set that is closed under parents, as a product of two factors.
use Rattle.std.proofs.Common.{ℕ, zero, suc, ◌*◌, ◌≡◌, ◌<◌, Bool, true, false, cond, eqb, refl, sym, ap, ◌∙◌, ◌||◌, ◌&&◌, arith, eqb-true}
use Rattle.mixed_graph.specs.Vocabulary.{MixedGraph}
use Rattle.finite_models.specs.Sums.{sum_over, product_below}
use Rattle.finite_models.specs.Models.{FiniteModel, solution, agree, event_weight, world_weight}
use Rattle.finite_models.proofs.Following.{Follows}
use Rattle.finite_models.proofs.Indicators.{number, number-all, cond-number, matches, agree-matches, over-matches}
use Rattle.finite_models.proofs.SumLaws.{over-congr, over-congr_within, over-swap, over-mul}
use Rattle.finite_models.proofs.Solutions.{IsRanked, IsClosed, agree-obeys, solution_within}

-- p 0 || .. || p (k - 1)
abbrev pub any_below : ℕ → (ℕ → Bool) → Bool
any_below zero p = false
any_below (suc k) p = any_below k p || p k

-- one number below k of which p holds is enough
pub any_below_from : (k : ℕ) (p : ℕ → Bool) (i : ℕ) → i < k → p i ≡ true → any_below k p ≡ true
any_below_from zero p i lt e = absurd (omega arith)
any_below_from (suc k) p i lt e = go (eqb i k) refl (λ l. any_below_from k p i l e)
  where
    right : (a b : Bool) → b ≡ true → (a || b) ≡ true
    right true b h = refl
    right false b h = h

    left : (a b : Bool) → a ≡ true → (a || b) ≡ true
    left true b h = refl
    left false b h = absurd (grind (arith, h))

    go : (q : Bool) → eqb i k ≡ q → (i < k → any_below k p ≡ true) → (any_below k p || p k) ≡ true
    go true same h = right (any_below k p) (p k) (rw (sym (eqb-true i k same)) e)
    go false ne h = left (any_below k p) (p k) (h (let d : i ≡ k → ⊥ = λ s. absurd (grind (arith, s, ne)) in omega arith))

-- where p holds of any number below k, there is one of which it does
pub any_below_gives : (k : ℕ) (p : ℕ → Bool) → any_below k p ≡ true → (i : ℕ) × (i < k) × (p i ≡ true)
any_below_gives zero p e = absurd (grind (arith, e))
any_below_gives (suc k) p e = go (any_below k p) (p k) refl refl e (any_below_gives k p)
  where
    go : (a b : Bool) → any_below k p ≡ a → p k ≡ b → (a || b) ≡ true → (any_below k p ≡ true → (i : ℕ) × (i < k) × (p i ≡ true)) → (i : ℕ) × (i < suc k)
        × (p i ≡ true)
    go true b ea eb h ih = let w = ih ea in (w.0, omega (arith, w.1), w.2)
    go false true ea eb h ih = (k, omega arith, eb)
    go false false ea eb h ih = absurd (grind (arith, h))

-- [s v is the value of the mechanism of v at s], where b
abbrev pub check : FiniteModel → Bool → ℕ → (ℕ → ℕ) → (ℕ → ℕ) → ℕ
check m b v s u = number (cond b (eqb (s v) (m.mechanism v s u)) true)

-- 1 where each vertex of S has in s the value that its mechanism gives at s, and 0 elsewhere
abbrev pub checks : FiniteModel → (ℕ → Bool) → (ℕ → ℕ) → (ℕ → ℕ) → ℕ
checks m S s u = product_below m.vertices (λ v. check m (S v) v s u)

-- the factor of the vertices of S in K, with the weights of the causes in J
abbrev pub factor : FiniteModel → (ℕ → Bool) → (ℕ → Bool) → (ℕ → Bool) → (ℕ → ℕ) → (ℕ → ℕ) → ℕ
factor m J S K s u = product_below m.causes (λ j. cond (J j) (m.weight j (u j)) 1) * checks m (λ v. S v && K v) s u

-- the factor of the vertices of S in K, summed over the values of the causes in J
abbrev pub group : FiniteModel → (ℕ → Bool) → (ℕ → Bool) → (ℕ → Bool) → (ℕ → ℕ) → ℕ
group m J S K s = sum_over J m.values m.causes (factor m J S K s) (λ j. 0)

module _ (g : MixedGraph) (m : FiniteModel) (rank : ℕ → ℕ) (ranked : IsRanked g rank) (follows : Follows g m) where
  -- an event's weight is the sum of the worlds' weights, each times its solution's agreement with s
  pub weight_by_matches : (A : ℕ → Bool) (s : ℕ → ℕ) → event_weight m A s
      ≡ sum_over (λ j. true) m.values m.causes (λ u. world_weight m u * matches m.vertices A (solution m u) s) (λ j. 0)
  weight_by_matches A s =
      over-congr (λ j. true) m.values m.causes (λ u. cond (agree m.vertices A (solution m u) s) (world_weight m u) 0)
      (λ u. world_weight m u * matches m.vertices A (solution m u) s) (λ j. 0)
      (λ u. cond-number (agree m.vertices A (solution m u) s) (world_weight m u) ∙ ap (λ r. world_weight m u * r) (agree-matches m.vertices A (solution m u) s))

  -- summed over the values on U, the weight on A and U is the weight on A
  pub marginal : (A U : ℕ → Bool) (s : ℕ → ℕ) → ((v : ℕ) → A v ≡ true → U v ≡ true → ⊥) → sum_over U m.size m.vertices (event_weight m (λ v. A v || U v)) s
      ≡ event_weight m A s
  marginal A U s d =
      over-congr U m.size m.vertices (event_weight m (λ v. A v || U v))
      (λ s'. sum_over (λ j. true) m.values m.causes (λ u. world_weight m u * matches m.vertices (λ v. A v || U v) (solution m u) s') (λ j. 0)) s
      (λ s'. weight_by_matches (λ v. A v || U v) s')
      ∙ over-swap U (λ j. true) m.size m.values m.vertices m.causes (λ s' u. world_weight m u * matches m.vertices (λ v. A v || U v) (solution m u) s') s
      (λ j. 0)
      ∙ over-congr_within (λ j. true) m.values m.causes (λ u. sum_over U m.size m.vertices
      (λ s'. world_weight m u * matches m.vertices (λ v. A v || U v) (solution m u) s') s)
      (λ u. world_weight m u * matches m.vertices A (solution m u) s) (λ j. 0)
      (λ u inside same. over-mul U m.size m.vertices (λ s'. world_weight m u) (matches m.vertices (λ v. A v || U v) (solution m u)) s (λ b i x lt e. refl)
      ∙ ap (λ r. world_weight m u * r) (over-matches U A m.size (solution m u) m.vertices s (solution_within g m follows u (λ j jl. inside j jl refl)) d))
      ∙ sym (weight_by_matches A s)

  -- a world counts for a closed set where each mechanism of the set gives the value of s at s
  pub weight_by_checks : (S : ℕ → Bool) (s : ℕ → ℕ) → IsClosed g S → event_weight m S s
      ≡ sum_over (λ j. true) m.values m.causes (λ u. world_weight m u * checks m S s u) (λ j. 0)
  weight_by_checks S s closed =
      over-congr (λ j. true) m.values m.causes (λ u. cond (agree m.vertices S (solution m u) s) (world_weight m u) 0) (λ u. world_weight m u * checks m S s u)
      (λ j. 0)
      (λ u. cond-number (agree m.vertices S (solution m u) s) (world_weight m u)
      ∙ ap (λ r. world_weight m u * r) (ap number (agree-obeys g m rank ranked follows S closed u s)
      ∙ number-all m.vertices (λ v. cond (S v) (eqb (s v) (m.mechanism v s u)) true)))
