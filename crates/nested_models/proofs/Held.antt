-- A nested event as an event of the model whose arrows out of x carry two values.
use Rattle.std.proofs.Common.{ℕ, suc, ◌≡◌, ◌<◌, Bool, true, cond, refl, sym, ap, ◌∙◌, ◌||◌, arith}
use Rattle.std.proofs.lemmas.Bool.{and_from, or_left, or_right}
use Rattle.mixed_graph.specs.Vocabulary.{MixedGraph, IsMixedGraph}
use Rattle.mixed_graph.proofs.Paths.{ancestor_member}
use Rattle.finite_models.specs.Vocabulary.{FiniteModel, IsAssignment, solution, agree, event_weight, world_weight}
use Rattle.finite_models.proofs.Bools.{and_first, and_second, either, same_truth}
use Rattle.finite_models.proofs.Following.{Follows, follows_of}
use Rattle.finite_models.proofs.Ranks.{with_rank}
use Rattle.finite_models.proofs.Solutions.{IsRanked, agree_from, agree_gives}
use Rattle.finite_models.proofs.SumLaws.{over-congr_within}
use Rattle.nested_models.specs.Nested.{nested, is_nested, weight_of_nested, held_apart, IsNestedQuery, TellsApart, NestedIsHeld}
use Rattle.nested_models.proofs.Worlds.{outcome, given}

module _ (g : MixedGraph) (ok : IsMixedGraph g) (w : FiniteModel) (rank : ℕ → ℕ) (ranked : IsRanked g rank) (follows : Follows g w) (x m y z k : ℕ → Bool)
    (asked : IsNestedQuery g x m y z) (tells : TellsApart g x m y k) (s t : ℕ → ℕ) (hs : IsAssignment w.vertices w.size s)
    (ht : IsAssignment w.vertices w.size t) where
  abbrev both : (ℕ → ℕ) → ℕ → ℕ
  both u = solution (held_apart w x k s t) u

  module _ (u : ℕ → ℕ) (inside : IsAssignment w.causes w.values u) where
    of_y : (v : ℕ) → v < w.vertices → y v ≡ true → both u v ≡ nested w x m s t u v
    of_y v il e = outcome g ok w rank ranked follows x m asked.m_x s t hs ht u inside y k tells v il e (asked.y_x v e) (asked.y_m v e)

    of_z : (v : ℕ) → v < w.vertices → z v ≡ true → both u v ≡ solution w u v
    of_z v il e = given g ok w rank ranked follows x m asked.m_x s t hs ht u inside y k tells z asked.before (suc (rank v)) v il (omega arith)
        (ancestor_member g z v (rw (sym follows.vertices) il) e)

    same : is_nested w x m y z s t u ≡ agree w.vertices (λ v. y v || z v) (both u) s
    same = same_truth (is_nested w x m y z s t u) (agree w.vertices (λ v. y v || z v) (both u) s)
        (λ e. agree_from w.vertices (λ v. y v || z v) (both u) s (λ v il i. either (y v) (z v) (both u v ≡ s v) i
        (λ h. of_y v il h ∙ agree_gives w.vertices y (nested w x m s t u) s
        (and_first (agree w.vertices y (nested w x m s t u) s) (agree w.vertices z (solution w u) s) e) v il h)
        (λ h. of_z v il h ∙ agree_gives w.vertices z (solution w u) s
        (and_second (agree w.vertices y (nested w x m s t u) s) (agree w.vertices z (solution w u) s) e) v il h)))
        (λ e. and_from (agree w.vertices y (nested w x m s t u) s) (agree w.vertices z (solution w u) s)
        (agree_from w.vertices y (nested w x m s t u) s (λ v il h. sym (of_y v il h)
        ∙ agree_gives w.vertices (λ v. y v || z v) (both u) s e v il (or_left (y v) (z v) h)))
        (agree_from w.vertices z (solution w u) s (λ v il h. sym (of_z v il h)
        ∙ agree_gives w.vertices (λ v. y v || z v) (both u) s e v il (or_right (y v) (z v) h))))

  held : weight_of_nested w x m y z s t ≡ event_weight (held_apart w x k s t) (λ v. y v || z v) s
  held = over-congr_within (λ j. true) w.values w.causes (λ u. cond (is_nested w x m y z s t u) (world_weight w u) 0)
      (λ u. cond (agree w.vertices (λ v. y v || z v) (both u) s) (world_weight w u) 0) (λ j. 0)
      (λ u inside base. ap (λ c. cond c (world_weight w u) 0) (same u (λ j jl. inside j jl refl)))

pub nested_is_held : NestedIsHeld
nested_is_held g ok w fit x m y z k asked tells s t hs ht =
    with_rank g ok (weight_of_nested w x m y z s t) (event_weight (held_apart w x k s t) (λ v. y v || z v) s)
    (λ rank ranked. held g ok w rank ranked (follows_of g w fit) x m y z k asked tells s t hs ht)
