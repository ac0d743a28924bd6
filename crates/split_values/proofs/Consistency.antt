-- A world that shows the values that are set is as where they are set, so the effect among those who show them is what is observed.
use Rattle.std.proofs.Common.{ℕ, ◌≡◌, ◌<◌, Bool, true, false, cond, ◌||◌, ◌&&◌, refl, sym, ap, ap₂, ◌∙◌}
use Rattle.std.proofs.lemmas.Bool.{and_from, or_left, or_right}
use mathlib.Core.Path.{fun_ext}
use Rattle.mixed_graph.specs.Vocabulary.{has, MixedGraph, IsMixedGraph, union}
use Rattle.mixed_graph.proofs.MaskLaws.{has_join, has_none}
use Rattle.fractions.specs.Vocabulary.{over}
use Rattle.finite_models.specs.Vocabulary.{FiniteModel, Fits, IsAssignment, IsSolution, solution, agree, intervene, event_weight, sum_worlds, world_weight}
use Rattle.finite_models.proofs.Bools.{and_first, and_second, either, same_truth}
use Rattle.finite_models.proofs.Following.{Follows, follows_of, follows_intervene}
use Rattle.finite_models.proofs.Ranks.{with_rank}
use Rattle.finite_models.proofs.Solutions.{IsRanked, solution_is, unique, agree_from, agree_gives}
use Rattle.finite_models.proofs.Weights.{weight_of-none}
use Rattle.prob_expr.specs.Vocabulary.{value_of, weights_of}
use Rattle.treated_models.specs.Vocabulary.{effect_among, is_both, weight_of_both}
use Rattle.split_values.specs.Values.{share_of}

module _ (g : MixedGraph) (m : FiniteModel) (fit : Fits g m) (x y o : ℕ → Bool) (s t : ℕ → ℕ) (within : IsAssignment m.vertices m.size s)
    (inside : (v : ℕ) → x v ≡ true → o v ≡ true) (alike : (v : ℕ) → v < m.vertices → t v ≡ s v) where
  module _ (rank : ℕ → ℕ) (ranked : IsRanked g rank) (u : ℕ → ℕ) where
    abbrev plain : ℕ → ℕ
    plain = solution m u

    abbrev under : ℕ → ℕ
    under = solution (intervene m x s) u

    follows : Follows g m
    follows = follows_of g m fit

    consistent : agree m.vertices x plain s ≡ true → (v : ℕ) → v < m.vertices → plain v ≡ under v
    consistent e = unique g (intervene m x s) rank ranked (follows_intervene g m x s within follows) u plain under solves
        (λ v vl. solution_is g (intervene m x s) rank ranked (follows_intervene g m x s within follows) u v vl)
      where
        solves : IsSolution (intervene m x s) u plain
        solves v vl = go (x v) refl
          where
            go : (b : Bool) → x v ≡ b → plain v ≡ cond b (s v) (m.mechanism v plain u)
            go true i = agree_gives m.vertices x plain s e v vl i
            go false i = solution_is g m rank ranked follows u v vl

    one_world : is_both m x y o s t u ≡ agree m.vertices (λ v. y v || o v) plain s
    one_world = same_truth (agree m.vertices y under s && agree m.vertices o plain t) (agree m.vertices (λ v. y v || o v) plain s) there back
      where
        there : (agree m.vertices y under s && agree m.vertices o plain t) ≡ true → agree m.vertices (λ v. y v || o v) plain s ≡ true
        there h =
            let a = and_first (agree m.vertices y under s) (agree m.vertices o plain t) h in
            let b = and_second (agree m.vertices y under s) (agree m.vertices o plain t) h in
            let shown = agree_from m.vertices x plain s (λ v vl i. agree_gives m.vertices o plain t b v vl (inside v i) ∙ alike v vl) in
            agree_from m.vertices (λ v. y v || o v) plain s (λ v vl i. either (y v) (o v) (plain v ≡ s v) i
            (λ j. consistent shown v vl ∙ agree_gives m.vertices y under s a v vl j)
            (λ j. agree_gives m.vertices o plain t b v vl j ∙ alike v vl))

        back : agree m.vertices (λ v. y v || o v) plain s ≡ true → (agree m.vertices y under s && agree m.vertices o plain t) ≡ true
        back h =
            let all = agree_gives m.vertices (λ v. y v || o v) plain s h in
            let shown = agree_from m.vertices x plain s (λ v vl i. all v vl (or_right (y v) (o v) (inside v i))) in
            and_from (agree m.vertices y under s) (agree m.vertices o plain t)
            (agree_from m.vertices y under s (λ v vl i. sym (consistent shown v vl) ∙ all v vl (or_left (y v) (o v) i)))
            (agree_from m.vertices o plain t (λ v vl i. all v vl (or_right (y v) (o v) i) ∙ sym (alike v vl)))

  pub shown_weight : IsMixedGraph g → weight_of_both m x y o s t ≡ event_weight m (λ v. y v || o v) s
  shown_weight ok = with_rank g ok (weight_of_both m x y o s t) (event_weight m (λ v. y v || o v) s)
      (λ rank ranked. ap (sum_worlds m) (fun_ext (λ u. ap (λ b. cond b (world_weight m u) 0) (one_world rank ranked u))))

  -- the event is read at values that are the same
  pub same_event : event_weight m o t ≡ event_weight m o s
  same_event = ap (sum_worlds m) (fun_ext (λ u. ap (λ b. cond b (world_weight m u) 0) (same_truth (agree m.vertices o (solution m u) t)
      (agree m.vertices o (solution m u) s)
      (λ h. agree_from m.vertices o (solution m u) s (λ v vl i. agree_gives m.vertices o (solution m u) t h v vl i ∙ alike v vl))
      (λ h. agree_from m.vertices o (solution m u) t (λ v vl i. agree_gives m.vertices o (solution m u) s h v vl i ∙ sym (alike v vl))))))

pub shown_effect : (g : MixedGraph) → IsMixedGraph g → (m : FiniteModel) → Fits g m → (x y z : ℕ) (s t : ℕ → ℕ) → IsAssignment m.vertices m.size s
    → ((v : ℕ) → v < m.vertices → t v ≡ s v)
    → value_of (weights_of m) (share_of y (union x z)) s ≡ effect_among m (has x) (has y) (λ v. has x v || has z v) s t
shown_effect g ok m fit x y z s t within alike =
    let o = λ (v : ℕ). has x v || has z v in
    let inside = λ (v : ℕ) (i : has x v ≡ true). or_left (has x v) (has z v) i in
    let given : has (union x z) ≡ o = fun_ext (has_join x z) in
    ap₂ over
    (weight_of-none m (has 0) (λ v. has y v || has (union x z) v) s has_none ∙ ap (λ (a : ℕ → Bool). event_weight m (λ v. has y v || a v) s) given
    ∙ sym (shown_weight g m fit (has x) (has y) o s t within inside alike ok))
    (weight_of-none m (has 0) (has (union x z)) s has_none ∙ ap (λ (a : ℕ → Bool). event_weight m a s) given
    ∙ sym (same_event g m fit (has x) (has y) o s t within inside alike))
