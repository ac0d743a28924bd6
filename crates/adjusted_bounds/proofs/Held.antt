-- Held arrows change nothing of a set that isn't below them.
use Rattle.std.proofs.Common.{ℕ, zero, suc, ◌≡◌, ◌<◌, Bool, true, false, cond, refl, sym, ap, ◌∙◌, ◌∷◌, [], arith}
use Rattle.std.proofs.lemmas.Bool.{false_from_ne_true, cond-false}
use Rattle.mixed_graph.specs.Vocabulary.{MixedGraph, IsMixedGraph, IsAncestor}
use Rattle.finite_models.specs.Vocabulary.{FiniteModel, IsAssignment, solution, agree, event_weight, world_weight}
use Rattle.finite_models.proofs.Following.{Follows}
use Rattle.finite_models.proofs.Solutions.{IsRanked, solution_is, agree_same}
use Rattle.finite_models.proofs.SumLaws.{over-congr}
use Rattle.adjustment.proofs.FirstEdges.{cut_arrows}
use Rattle.adjustment.proofs.Held.{hold_arrows, ranked_arrows, follows_arrows}
use Rattle.adjustment.proofs.Walks.{IsClear}

module _ (g : MixedGraph) (m : FiniteModel) (rank : ℕ → ℕ) (is_graph : IsMixedGraph g) (ranked : IsRanked g rank) (follows : Follows g m) (a : ℕ → ℕ)
    (within : IsAssignment m.vertices m.size a) (E : ℕ → ℕ → Bool) (Z : ℕ → Bool) (clear : IsClear g E Z) where
  above : (u : ℕ → ℕ) (k v : ℕ) → v < m.vertices → rank v < k → IsAncestor g Z v → solution (hold_arrows m E a) u v ≡ solution m u v
  above u zero v il lt i = absurd (omega arith)
  above u (suc k) v il lt i =
      solution_is (cut_arrows g E) (hold_arrows m E a) rank (ranked_arrows g E rank ranked) (follows_arrows g m E a within follows) u v il
      ∙ follows.reads v il (λ p. cond (E p v) (a p) (solution (hold_arrows m E a) u p)) (solution m u) u u
      (λ p e. let r = ranked.rises p v e in
      cond-false (E p v) (a p) (solution (hold_arrows m E a) u p) (false_from_ne_true (E p v) (λ h. clear p v e h i.end i.path i.leads i.inside))
      ∙ above u k p (rw follows.vertices (ranked.tail_below p v e)) (omega arith)
      (record { vertex = is_graph.tail_below p v e; path = v ∷ i.path; end = i.end; leads = (e, i.leads); inside = i.inside }))
      (λ j jl q. refl)
      ∙ sym (solution_is g m rank ranked follows u v il)

  member : (u : ℕ → ℕ) (v : ℕ) → v < m.vertices → Z v ≡ true → solution (hold_arrows m E a) u v ≡ solution m u v
  member u v il e = above u (suc (rank v)) v il (omega arith)
      (record { vertex = rw (sym follows.vertices) il; path = []; end = v; leads = refl; inside = e })

  pub kept : (c : ℕ → ℕ) → event_weight (hold_arrows m E a) Z c ≡ event_weight m Z c
  kept c =
      over-congr (λ j. true) m.values m.causes (λ u. cond (agree m.vertices Z (solution (hold_arrows m E a) u) c) (world_weight m u) 0)
      (λ u. cond (agree m.vertices Z (solution m u) c) (world_weight m u) 0) (λ j. 0)
      (λ u. ap (λ b. cond b (world_weight m u) 0) (agree_same m.vertices Z Z (solution (hold_arrows m E a) u) (solution m u) c
      (λ f v il e. sym (member u v il e) ∙ f v il e) (λ f v il e. member u v il e ∙ f v il e)))
