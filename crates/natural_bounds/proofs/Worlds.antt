-- One world as it is, and under an intervention.
use Rattle.std.proofs.Common.{ℕ, zero, suc, ◌≡◌, ◌<◌, Bool, true, false, cond, refl, sym, ◌∙◌, arith}
use Rattle.mixed_graph.specs.Vocabulary.{MixedGraph}
use Rattle.do_rules.specs.Vocabulary.{cut_into}
use Rattle.finite_models.specs.Vocabulary.{FiniteModel, IsAssignment, IsSolution, solution, intervene}
use Rattle.finite_models.proofs.Following.{Follows}
use Rattle.finite_models.proofs.Solutions.{IsRanked, IsClosed, solution_is, unique}
use Rattle.do_rules.proofs.Altered.{ranked_into, follows_into}
use Rattle.natural_bounds.specs.Natural.{nothing}

module _ (g : MixedGraph) (m : FiniteModel) (rank : ℕ → ℕ) (ranked : IsRanked g rank) (follows : Follows g m) (s : ℕ → ℕ)
    (within : IsAssignment m.vertices m.size s) where
  solved : (X : ℕ → Bool) (u : ℕ → ℕ) → IsSolution (intervene m X s) u (solution (intervene m X s) u)
  solved X u = solution_is (cut_into g X) (intervene m X s) rank (ranked_into g X rank ranked) (follows_into g m X s within follows) u

  -- consistency: a world that has the values of s on X is as under do(X)
  pub consistent : (X : ℕ → Bool) (u : ℕ → ℕ) → ((v : ℕ) → v < m.vertices → X v ≡ true → solution (intervene m nothing s) u v ≡ s v)
      → (v : ℕ) → v < m.vertices → solution (intervene m nothing s) u v ≡ solution (intervene m X s) u v
  consistent X u h =
      unique (cut_into g X) (intervene m X s) rank (ranked_into g X rank ranked) (follows_into g m X s within follows) u
      (solution (intervene m nothing s) u) (solution (intervene m X s) u) (λ v il. at v (X v) (λ e. h v il e) (solved nothing u v il)) (solved X u)
    where
      at : (v : ℕ) (x : Bool) → (x ≡ true → solution (intervene m nothing s) u v ≡ s v)
          → solution (intervene m nothing s) u v ≡ m.mechanism v (solution (intervene m nothing s) u) u
          → solution (intervene m nothing s) u v ≡ cond x (s v) (m.mechanism v (solution (intervene m nothing s) u) u)
      at v true k e = k refl
      at v false k e = e

  -- an intervention on vertices outside a set that is closed under parents changes no value in it
  pub alike : (X C : ℕ → Bool) → IsClosed g C → ((v : ℕ) → C v ≡ true → X v ≡ false) → (u : ℕ → ℕ) (v : ℕ) → v < m.vertices → C v ≡ true
      → solution (intervene m X s) u v ≡ solution (intervene m nothing s) u v
  alike X C closed cx u v il c = up (suc (rank v)) v il (omega arith) c
    where
      up : (k v : ℕ) → v < m.vertices → rank v < k → C v ≡ true → solution (intervene m X s) u v ≡ solution (intervene m nothing s) u v
      up zero v il lt c = absurd (omega arith)
      up (suc k) v il lt c = solved X u v il ∙ at (X v) (cx v c) (λ p pl r. up k p pl r) ∙ sym (solved nothing u v il)
        where
          at : (x : Bool) → x ≡ false
              → ((p : ℕ) → p < m.vertices → rank p < k → C p ≡ true → solution (intervene m X s) u p ≡ solution (intervene m nothing s) u p)
              → cond x (s v) (m.mechanism v (solution (intervene m X s) u) u) ≡ m.mechanism v (solution (intervene m nothing s) u) u
          at true ex ih = absurd (grind (arith, ex))
          at false ex ih =
              follows.reads v il (solution (intervene m X s) u) (solution (intervene m nothing s) u) u u
              (λ p a. let r = ranked.rises p v a in ih p (rw follows.vertices (ranked.tail_below p v a)) (omega arith) (closed p v a c))
              (λ j jl q. refl)
