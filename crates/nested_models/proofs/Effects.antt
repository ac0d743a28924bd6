-- Where a nested event is one under do(x).
use Rattle.std.proofs.Common.{ℕ, suc, ◌≡◌, ◌<◌, Bool, true, false, cond, refl, sym, ap, ◌∙◌, ◌||◌, ◌&&◌, arith}
use Rattle.std.proofs.lemmas.Bool.{and_from, cond-false, or_left, or_right}
use mathlib.Core.Path.{fun_ext}
use Rattle.mixed_graph.specs.Vocabulary.{MixedGraph, IsMixedGraph}
use Rattle.mixed_graph.proofs.Paths.{ancestor_member}
use Rattle.finite_models.specs.Vocabulary.{FiniteModel, Fits, IsAssignment, solution, agree, event_weight, intervene, weight_of, world_weight}
use Rattle.finite_models.proofs.Bools.{and_first, and_second, either, same_truth}
use Rattle.finite_models.proofs.Following.{Follows, follows_of}
use Rattle.finite_models.proofs.Ranks.{with_rank}
use Rattle.finite_models.proofs.Solutions.{IsRanked, agree_from, agree_gives}
use Rattle.finite_models.proofs.SumLaws.{over-congr, over-congr_within}
use Rattle.treated_models.specs.Vocabulary.{held, is_both, joined, IsBefore}
use Rattle.treated_models.proofs.Held.{treated_is_held}
use Rattle.nested_models.specs.Nested.{nested, is_nested, weight_of_nested, IsNestedQuery}
use Rattle.nested_models.specs.Nested.{OneValueIsEffect, NoIndirectPathIsEffect, NoDirectPathIsEffect}
use Rattle.nested_models.proofs.Held.{nested_is_held}
use Rattle.nested_models.proofs.Worlds.{one_value, unmoved}

-- ---- one value
module _ (g : MixedGraph) (ok : IsMixedGraph g) (w : FiniteModel) (rank : ℕ → ℕ) (ranked : IsRanked g rank) (follows : Follows g w) (x m y z : ℕ → Bool)
    (asked : IsNestedQuery g x m y z) (s t : ℕ → ℕ) (hs : IsAssignment w.vertices w.size s) (ht : IsAssignment w.vertices w.size t)
    (same : (v : ℕ) → x v ≡ true → s v ≡ t v) where
  abbrev after : (ℕ → ℕ) → ℕ → ℕ
  after u = solution (intervene w x s) u

  module _ (u : ℕ → ℕ) (inside : IsAssignment w.causes w.values u) where
    of_y : (v : ℕ) → v < w.vertices → nested w x m s t u v ≡ after u v
    of_y v il = one_value g ok w rank ranked follows x m asked.m_x s t hs ht u inside same v il

    of_z : (v : ℕ) → v < w.vertices → z v ≡ true → after u v ≡ solution w u v
    of_z v il e = unmoved g ok w rank ranked follows x z asked.before s hs u (suc (rank v)) v il (omega arith)
        (ancestor_member g z v (rw (sym follows.vertices) il) e) (asked.z_x v e)

    seen : is_nested w x m y z s t u ≡ agree w.vertices (λ v. y v || z v) (after u) s
    seen = same_truth (is_nested w x m y z s t u) (agree w.vertices (λ v. y v || z v) (after u) s)
        (λ e. agree_from w.vertices (λ v. y v || z v) (after u) s (λ v il i. either (y v) (z v) (after u v ≡ s v) i
        (λ h. sym (of_y v il) ∙ agree_gives w.vertices y (nested w x m s t u) s
        (and_first (agree w.vertices y (nested w x m s t u) s) (agree w.vertices z (solution w u) s) e) v il h)
        (λ h. of_z v il h ∙ agree_gives w.vertices z (solution w u) s
        (and_second (agree w.vertices y (nested w x m s t u) s) (agree w.vertices z (solution w u) s) e) v il h)))
        (λ e. and_from (agree w.vertices y (nested w x m s t u) s) (agree w.vertices z (solution w u) s)
        (agree_from w.vertices y (nested w x m s t u) s (λ v il h. of_y v il
        ∙ agree_gives w.vertices (λ v. y v || z v) (after u) s e v il (or_left (y v) (z v) h)))
        (agree_from w.vertices z (solution w u) s (λ v il h. sym (of_z v il h)
        ∙ agree_gives w.vertices (λ v. y v || z v) (after u) s e v il (or_right (y v) (z v) h))))

  one : weight_of_nested w x m y z s t ≡ weight_of w x (λ v. y v || z v) s
  one = over-congr_within (λ j. true) w.values w.causes (λ u. cond (is_nested w x m y z s t u) (world_weight w u) 0)
      (λ u. cond (agree w.vertices (λ v. y v || z v) (after u) s) (world_weight w u) 0) (λ j. 0)
      (λ u inside base. ap (λ c. cond c (world_weight w u) 0) (seen u (λ j jl. inside j jl refl)))

pub one_value_is_effect : OneValueIsEffect
one_value_is_effect g ok w fit x m y z asked s t hs ht same =
    with_rank g ok (weight_of_nested w x m y z s t) (weight_of w x (λ v. y v || z v) s)
    (λ rank ranked. one g ok w rank ranked (follows_of g w fit) x m y z asked s t hs ht same)

-- ---- held arrows that carry one value
nothing_before : (g : MixedGraph) (x : ℕ → Bool) → IsBefore g x (λ v. false)
nothing_before g x = record {
  past = λ v. false;
  holds = λ v e. e;
  closed = λ p v a e. e;
  untouched = λ p v a e. absurd (grind (arith, e));
}

-- an event off x has the weight that it has under do(x)
pub held_is_effect : (g : MixedGraph) → IsMixedGraph g → (w : FiniteModel) → Fits g w → (x a : ℕ → Bool) → ((v : ℕ) → a v ≡ true → x v ≡ false)
    → (s : ℕ → ℕ) → IsAssignment w.vertices w.size s → event_weight (held w x s) a s ≡ weight_of w x a s
held_is_effect g ok w fit x a off s within =
    ap (λ b. event_weight (held w x s) b s) (fun_ext (λ v. alone (a v)))
    ∙ sym (treated_is_held g ok w fit x a (λ v. false) (nothing_before g x) off (λ v e. refl) s s within)
    ∙ over-congr (λ j. true) w.values w.causes (λ u. cond (is_both w x a (λ v. false) s s u) (world_weight w u) 0)
    (λ u. cond (agree w.vertices a (solution (intervene w x s) u) s) (world_weight w u) 0) (λ j. 0)
    (λ u. ap (λ c. cond c (world_weight w u) 0) (ap (λ c. agree w.vertices a (solution (intervene w x s) u) s && c)
    (agree_from w.vertices (λ v. false) (solution w u) s (λ v il e. absurd (grind (arith, e)))) ∙ whole (agree w.vertices a (solution (intervene w x s) u) s)))
  where
    alone : (c : Bool) → c ≡ (c || false)
    alone true = refl
    alone false = refl

    whole : (c : Bool) → (c && true) ≡ c
    whole true = refl
    whole false = refl

off_x : (g : MixedGraph) (x m y z : ℕ → Bool) → IsNestedQuery g x m y z → (v : ℕ) → (y v || z v) ≡ true → x v ≡ false
off_x g x m y z asked v e = either (y v) (z v) (x v ≡ false) e (asked.y_x v) (asked.z_x v)

pub no_indirect_path_is_effect : NoIndirectPathIsEffect
no_indirect_path_is_effect g ok w fit x m y z asked none s t hs ht =
    nested_is_held g ok w fit x m y z (λ v. false) asked
    (record { through = λ p c a e l. absurd (none p c a e l); past = λ p c a e l. refl }) s t hs ht
    ∙ held_is_effect g ok w fit x (λ v. y v || z v) (off_x g x m y z asked) s hs

-- an event off x, where held arrows carry the values t
module _ (w : FiniteModel) (x a : ℕ → Bool) (off : (v : ℕ) → a v ≡ true → x v ≡ false) (s t : ℕ → ℕ) where
  turned : event_weight (held w x t) a s ≡ event_weight (held w x (joined x s t)) a (joined x s t)
  turned =
      ap (λ f. event_weight (record w { mechanism = λ v r u. w.mechanism v (f r) u }) a s) (fun_ext (λ r. fun_ext (λ p. twice (x p) (t p) (s p) (r p))))
      ∙ over-congr (λ j. true) w.values w.causes (λ u. cond (agree w.vertices a (sol u) s) (world_weight w u) 0)
      (λ u. cond (agree w.vertices a (sol u) (joined x s t)) (world_weight w u) 0) (λ j. 0)
      (λ u. ap (λ c. cond c (world_weight w u) 0) (same_truth (agree w.vertices a (sol u) s) (agree w.vertices a (sol u) (joined x s t))
      (λ e. agree_from w.vertices a (sol u) (joined x s t) (λ v il i. agree_gives w.vertices a (sol u) s e v il i ∙ sym (first v i)))
      (λ e. agree_from w.vertices a (sol u) s (λ v il i. agree_gives w.vertices a (sol u) (joined x s t) e v il i ∙ first v i))))
    where
      sol : (ℕ → ℕ) → ℕ → ℕ
      sol u = solution (held w x (joined x s t)) u

      first : (v : ℕ) → a v ≡ true → joined x s t v ≡ s v
      first v i = cond-false (x v) (t v) (s v) (off v i)

      twice : (c : Bool) (i j n : ℕ) → cond c i n ≡ cond c (cond c i j) n
      twice true i j n = refl
      twice false i j n = refl

joined_within : (n : ℕ) (size : ℕ → ℕ) (x : ℕ → Bool) (s t : ℕ → ℕ) → IsAssignment n size s → IsAssignment n size t → IsAssignment n size (joined x s t)
joined_within n size x s t hs ht v il = go (x v)
  where
    go : (c : Bool) → cond c (t v) (s v) < size v
    go true = ht v il
    go false = hs v il

pub no_direct_path_is_effect : NoDirectPathIsEffect
no_direct_path_is_effect g ok w fit x m y z asked none s t hs ht =
    nested_is_held g ok w fit x m y z (λ v. true) asked
    (record { through = λ p c a e l. refl; past = λ p c a e l. absurd (none p c a e l) }) s t hs ht
    ∙ turned w x (λ v. y v || z v) (off_x g x m y z asked) s t
    ∙ held_is_effect g ok w fit x (λ v. y v || z v) (off_x g x m y z asked) (joined x s t) (joined_within w.vertices w.size x s t hs ht)
