-- A weight depends on its sets below the number of vertices, and on the assignment at their members alone.
use Rattle.std.proofs.Common.{ℕ, zero, suc, ◌≡◌, ◌<◌, Bool, true, false, cond, refl, sym, ap, ◌∙◌}
use Rattle.mixed_graph.specs.Vocabulary.{MixedGraph, IsMixedGraph}
use Rattle.finite_models.specs.Vocabulary.{FiniteModel, rounds, solution, agree, intervene, weight_of, world_weight}
use Rattle.finite_models.proofs.Bools.{same_truth}
use Rattle.finite_models.proofs.Following.{Follows}
use Rattle.finite_models.proofs.SumLaws.{over-congr}
use Rattle.finite_models.proofs.Solutions.{agree_gives, agree_from}

module _ (g : MixedGraph) (m : FiniteModel) (ok : IsMixedGraph g) (fit : Follows g m) (b b' a a' : ℕ → Bool) (s t : ℕ → ℕ)
    (same_b : (v : ℕ) → v < m.vertices → b v ≡ b' v) (same_a : (v : ℕ) → v < m.vertices → a v ≡ a' v)
    (at_b : (v : ℕ) → v < m.vertices → b v ≡ true → s v ≡ t v) (at_a : (v : ℕ) → v < m.vertices → a v ≡ true → s v ≡ t v) where
  pub same_round : (u : ℕ → ℕ) (k v : ℕ) → v < m.vertices → rounds (intervene m b s) k u v ≡ rounds (intervene m b' t) k u v
  same_round u zero v vl = refl
  same_round u (suc k) v vl = go (b v) refl (fit.reads v vl (rounds (intervene m b s) k u) (rounds (intervene m b' t) k u) u u
      (λ q e. same_round u k q (rw fit.vertices (ok.tail_below q v e))) (λ j jl e. refl))
    where
      go : (c : Bool) → b v ≡ c → m.mechanism v (rounds (intervene m b s) k u) u ≡ m.mechanism v (rounds (intervene m b' t) k u) u
          → cond (b v) (s v) (m.mechanism v (rounds (intervene m b s) k u) u) ≡ cond (b' v) (t v) (m.mechanism v (rounds (intervene m b' t) k u) u)
      go true e h = let f : b' v ≡ true = sym (same_b v vl) ∙ e in rw (e, f) (at_b v vl e)
      go false e h = let f : b' v ≡ false = sym (same_b v vl) ∙ e in rw (e, f) h

  pub same_agree : (u : ℕ → ℕ) → agree m.vertices a (solution (intervene m b s) u) s ≡ agree m.vertices a' (solution (intervene m b' t) u) t
  same_agree u = same_truth (agree m.vertices a (solution (intervene m b s) u) s) (agree m.vertices a' (solution (intervene m b' t) u) t)
      (λ h. agree_from m.vertices a' (solution (intervene m b' t) u) t
      (λ v vl e. let f : a v ≡ true = same_a v vl ∙ e in sym (same_round u m.vertices v vl)
      ∙ agree_gives m.vertices a (solution (intervene m b s) u) s h v vl f ∙ at_a v vl f))
      (λ h. agree_from m.vertices a (solution (intervene m b s) u) s (λ v vl e. same_round u m.vertices v vl
      ∙ agree_gives m.vertices a' (solution (intervene m b' t) u) t h v vl (sym (same_a v vl) ∙ e) ∙ sym (at_a v vl e)))

  -- sets with the same vertices, and assignments that agree on them, give one weight
  pub weight_depends : weight_of m b a s ≡ weight_of m b' a' t
  weight_depends = over-congr (λ j. true) m.values m.causes
      (λ u. cond (agree m.vertices a (solution (intervene m b s) u) s) (world_weight m u) 0)
      (λ u. cond (agree m.vertices a' (solution (intervene m b' t) u) t) (world_weight m u) 0) (λ j. 0)
      (λ u. ap (λ x. cond x (world_weight m u) 0) (same_agree u))
