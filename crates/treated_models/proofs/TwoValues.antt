-- With two values each world shows the one or the other.
use Rattle.std.proofs.Common.{ℕ, ◌+◌, ◌≡◌, ◌<◌, Bool, true, false, cond, eqb, eqb-true, ◌||◌, ◌&&◌, refl, sym, ap, ◌∙◌, arith}
use Rattle.std.proofs.lemmas.Bool.{false_from_ne_true, or_left, or_right}
use Rattle.mixed_graph.specs.Vocabulary.{MixedGraph}
use Rattle.finite_models.specs.Vocabulary.{FiniteModel, Fits, IsAssignment, IsSolution, solution, agree, intervene, event_weight, weight_of, world_weight}
use Rattle.finite_models.proofs.Bools.{same_truth, either}
use Rattle.finite_models.proofs.Following.{Follows, follows_of, follows_intervene}
use Rattle.finite_models.proofs.Ranks.{with_rank}
use Rattle.finite_models.proofs.Solutions.{IsRanked, solution_is, solution_within, unique, agree_from, agree_gives}
use Rattle.finite_models.proofs.SumLaws.{eqb-refl, over-congr_within, over-add}
use Rattle.treated_models.specs.Treated.{weight_of_both}
use Rattle.treated_models.specs.TwoValues.{IsOtherValue, TwoValuesSplit}

module _ (g : MixedGraph) (m : FiniteModel) (fit : Fits g m) (v : ℕ) (y : ℕ → Bool) (s t : ℕ → ℕ) (within : IsAssignment m.vertices m.size s)
    (other : IsOtherValue m v s t) (rank : ℕ → ℕ) (ranked : IsRanked g rank) where
  abbrev at : ℕ → Bool
  at k = eqb k v

  follows : Follows g m
  follows = follows_of g m fit

  module _ (u : ℕ → ℕ) (world : IsAssignment m.causes m.values u) where
    abbrev plain : ℕ → ℕ
    plain = solution m u

    abbrev under : ℕ → ℕ
    under = solution (intervene m at s) u

    -- whether a value is shown
    shows : (r : ℕ → ℕ) → plain v ≡ r v → agree m.vertices at plain r ≡ true
    shows r e = agree_from m.vertices at plain r (λ k kl i. ap plain (eqb-true k v i) ∙ e ∙ ap r (sym (eqb-true k v i)))

    shown : (r : ℕ → ℕ) → agree m.vertices at plain r ≡ true → plain v ≡ r v
    shown r e = agree_gives m.vertices at plain r e v other.vertex (eqb-refl v)

    -- a world that shows the value is as where it is set
    consistent : plain v ≡ s v → (k : ℕ) → k < m.vertices → plain k ≡ under k
    consistent e = unique g (intervene m at s) rank ranked (follows_intervene g m at s within follows) u plain under solves
        (λ k kl. solution_is g (intervene m at s) rank ranked (follows_intervene g m at s within follows) u k kl)
      where
        solves : IsSolution (intervene m at s) u plain
        solves k kl = go (at k) refl
          where
            go : (b : Bool) → at k ≡ b → plain k ≡ cond b (s k) (m.mechanism k plain u)
            go true i = ap plain (eqb-true k v i) ∙ e ∙ ap s (sym (eqb-true k v i))
            go false i = solution_is g m rank ranked follows u k kl

    both : plain v ≡ s v → agree m.vertices y under s ≡ agree m.vertices (λ k. y k || at k) plain s
    both e = same_truth (agree m.vertices y under s) (agree m.vertices (λ k. y k || at k) plain s)
        (λ h. agree_from m.vertices (λ k. y k || at k) plain s (λ k kl i. either (y k) (at k) (plain k ≡ s k) i
        (λ j. consistent e k kl ∙ agree_gives m.vertices y under s h k kl j)
        (λ j. ap plain (eqb-true k v j) ∙ e ∙ ap s (sym (eqb-true k v j)))))
        (λ h. agree_from m.vertices y under s (λ k kl i. sym (consistent e k kl)
        ∙ agree_gives m.vertices (λ k. y k || at k) plain s h k kl (or_left (y k) (at k) i)))

    below : plain v < 2
    below = let l = solution_within g m follows u world v other.vertex in let two = other.two in omega (arith, l, two)

    -- the world counts once: with the one value, or with the other
    each : cond (agree m.vertices y under s) (world_weight m u) 0
        ≡ cond (agree m.vertices (λ k. y k || at k) plain s) (world_weight m u) 0
        + cond (agree m.vertices y under s && agree m.vertices at plain t) (world_weight m u) 0
    each = go (eqb (plain v) (s v)) refl
      where
        go : (b : Bool) → eqb (plain v) (s v) ≡ b → cond (agree m.vertices y under s) (world_weight m u) 0
            ≡ cond (agree m.vertices (λ k. y k || at k) plain s) (world_weight m u) 0
            + cond (agree m.vertices y under s && agree m.vertices at plain t) (world_weight m u) 0
        go true e =
            let is = eqb-true (plain v) (s v) e in
            let same = both is in
            let no : agree m.vertices at plain t ≡ false = false_from_ne_true (agree m.vertices at plain t) (λ h. other.other (sym (shown t h) ∙ is)) in
            rw (same, no) (one (agree m.vertices (λ k. y k || at k) plain s) (world_weight m u))
          where
            one : (a : Bool) (w : ℕ) → cond a w 0 ≡ cond a w 0 + cond (a && false) w 0
            one true w = omega arith
            one false w = omega arith
        go false e =
            let no : agree m.vertices (λ k. y k || at k) plain s ≡ false = false_from_ne_true (agree m.vertices (λ k. y k || at k) plain s)
            (λ h. differs e (agree_gives m.vertices (λ k. y k || at k) plain s h v other.vertex (or_right (y v) (at v) (eqb-refl v)))) in
            let yes : agree m.vertices at plain t ≡ true = shows t (rest e) in
            rw (no, yes) (one (agree m.vertices y under s) (world_weight m u))
          where
            differs : eqb (plain v) (s v) ≡ false → plain v ≡ s v → ⊥
            differs e q = absurd (grind (arith, q, e))

            rest : eqb (plain v) (s v) ≡ false → plain v ≡ t v
            rest e =
                let l = below in
                let i = other.inside in
                let o = other.other in
                let w = within v other.vertex in
                let two = other.two in
                let d = differs e in
                omega (arith, l, i, o, w, two, d)

            one : (a : Bool) (w : ℕ) → cond a w 0 ≡ 0 + cond (a && true) w 0
            one true w = omega arith
            one false w = omega arith

pub two_values_split : TwoValuesSplit
two_values_split g ok m fit v y s t within other =
    with_rank g ok (weight_of m (λ k. eqb k v) y s)
    (event_weight m (λ k. y k || eqb k v) s + weight_of_both m (λ k. eqb k v) y (λ k. eqb k v) s t) (λ rank ranked.
    over-congr_within (λ j. true) m.values m.causes
    (λ u. cond (agree m.vertices y (solution (intervene m (λ k. eqb k v) s) u) s) (world_weight m u) 0)
    (λ u. cond (agree m.vertices (λ k. y k || eqb k v) (solution m u) s) (world_weight m u) 0
    + cond (agree m.vertices y (solution (intervene m (λ k. eqb k v) s) u) s && agree m.vertices (λ k. eqb k v) (solution m u) t) (world_weight m u) 0)
    (λ j. 0) (λ u values rest. each g m fit v y s t within other rank ranked u (λ j jl. values j jl refl))
    ∙ over-add (λ j. true) m.values m.causes
    (λ u. cond (agree m.vertices (λ k. y k || eqb k v) (solution m u) s) (world_weight m u) 0)
    (λ u. cond (agree m.vertices y (solution (intervene m (λ k. eqb k v) s) u) s && agree m.vertices (λ k. eqb k v) (solution m u) t) (world_weight m u) 0)
    (λ j. 0))
