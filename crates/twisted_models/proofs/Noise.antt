-- The twist of a model with noise, and what noise leaves of a nested event.
use Rattle.std.proofs.Common.{ℕ, zero, suc, ◌+◌, ◌-◌, ◌≡◌, ◌<◌, ◌≤◌, Bool, false, cond, eqb, ◌&&◌, ◌||◌, refl, sym, ap, ap₂, ◌∙◌, arith, lt-ltb}
use Rattle.std.proofs.lemmas.Bool.{false_from_ne_true}
use Rattle.mixed_graph.specs.Vocabulary.{MixedGraph, IsMixedGraph}
use Rattle.finite_models.specs.Vocabulary.{FiniteModel, Fits, solution, rounds, intervene}
use Rattle.finite_models.proofs.Agreeing.{agree-congr}
use Rattle.walk_models.specs.Noisy.{noisy}
use Rattle.walk_models.proofs.Near.{solution_same}
use Rattle.nested_models.specs.Nested.{nested}
use Rattle.nested_models.specs.Vocabulary.{is_nested}
use Rattle.twisted_models.specs.Twisted.{IsCoin, IsTwist, flipped, with_mechanism}

module _ (m : FiniteModel) (f : ℕ → (ℕ → ℕ) → (ℕ → ℕ) → ℕ) (twist : IsTwist m f) (k : ℕ) where
  -- the mechanisms of the twist, with noise
  abbrev pub noisy_mechanism : ℕ → (ℕ → ℕ) → (ℕ → ℕ) → ℕ
  noisy_mechanism = (noisy k (with_mechanism m f)).mechanism

  coin_kept : (j : ℕ) → IsCoin m j → IsCoin (noisy k m) j
  coin_kept j c = let low = lt-ltb j m.causes c.cause in record {
    cause = let l = c.cause in omega arith;
    two = rw low c.two;
    fair = rw low c.fair;
  }

  -- no coin is a noise
  noise_kept : (s u : ℕ → ℕ) (v : ℕ) → flipped (twist.flips s) u (m.causes + v) ≡ u (m.causes + v)
  noise_kept s u v =
      let none : twist.flips s (m.causes + v) ≡ false = false_from_ne_true (twist.flips s (m.causes + v))
      (λ e. let l = (twist.coins s (m.causes + v) e).cause in omega (arith, l)) in
      rw none refl

  -- it is the twist of the model with noise, by the same coins
  pub noisy_twist : IsTwist (noisy k m) noisy_mechanism
  noisy_twist = record {
    flips = twist.flips;
    coins = λ s j e. coin_kept j (twist.coins s j e);
    twisted = λ s u v lt. ap₂ (λ a b. cond (eqb a 0) b (a - 1)) (sym (noise_kept s u v)) (twist.twisted s u v lt);
  }

-- the intervention on no vertex leaves the values of a world
no_intervention : (w : FiniteModel) (s : ℕ → ℕ) (i : ℕ) (u : ℕ → ℕ) → rounds (intervene w (λ v. false) s) i u ≡ rounds w i u
no_intervention w s zero u = refl
no_intervention w s (suc i) u = ap (λ r. λ (v : ℕ). w.mechanism v r u) (no_intervention w s i u)

module _ (g : MixedGraph) (ok : IsMixedGraph g) (w : FiniteModel) (fit : Fits g w) (k : ℕ) (some : 1 ≤ k) (u : ℕ → ℕ)
    (calm : (v : ℕ) → v < w.vertices → u (w.causes + v) ≡ 0) where
  same : (b : ℕ → Bool) (s t : ℕ → ℕ) → ((v : ℕ) → v < w.vertices → s v ≡ t v) → (v : ℕ) → v < w.vertices
      → solution (intervene (noisy k w) b s) u v ≡ solution (intervene w b t) u v
  same = solution_same g w fit k some ok u calm

  plain_same : (v : ℕ) → v < w.vertices → solution (noisy k w) u v ≡ solution w u v
  plain_same v lt =
      ap (λ r. r v) (sym (no_intervention (noisy k w) (λ p. 0) w.vertices u))
      ∙ same (λ p. false) (λ p. 0) (λ p. 0) (λ p l. refl) v lt
      ∙ ap (λ r. r v) (no_intervention w (λ p. 0) w.vertices u)

  -- without noise a world is in the nested event as before
  pub nested_same : (x m y z : ℕ → Bool) (s t : ℕ → ℕ) → is_nested (noisy k w) x m y z s t u ≡ is_nested w x m y z s t u
  nested_same x m y z s t = ap₂ (λ p q. p && q)
      (agree-congr w.vertices y (nested (noisy k w) x m s t u) (nested w x m s t u) s
      (same (λ v. x v || m v) (λ v. cond (m v) (solution (intervene (noisy k w) x t) u v) (s v)) (λ v. cond (m v) (solution (intervene w x t) u v) (s v))
      (λ v lt. ap (λ r. cond (m v) r (s v)) (same x t t (λ p l. refl) v lt))))
      (agree-congr w.vertices z (solution (noisy k w) u) (solution w u) s plain_same)
