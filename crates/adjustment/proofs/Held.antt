-- The model in which some arrows carry fixed values, and its weights.
use Rattle.std.proofs.Common.{ℕ, zero, suc, ◌*◌, ◌≡◌, ◌<◌, Bool, true, false, cond, not, refl, sym, ap, ◌∙◌, ◌||◌, ◌&&◌, ◌∷◌, [], arith}
use Rattle.std.proofs.lemmas.Bool.{and_parts, and_from, not_from_false, false_from_ne_true, or_left, cond-true, cond-false}
use Rattle.mixed_graph.specs.Vocabulary.{MixedGraph, IsMixedGraph, IsAncestor}
use Rattle.m_separation.specs.Vocabulary.{IsSeparated}
use Rattle.do_rules.specs.Vocabulary.{cut_into}
use Rattle.finite_models.specs.Vocabulary.{sum_over, FiniteModel, IsAssignment, IsSolution, solution, agree, event_weight, world_weight, intervene, weight_of}
use Rattle.finite_models.proofs.Bools.{not_both}
use Rattle.finite_models.proofs.Factors.{marginal}
use Rattle.finite_models.proofs.Following.{Follows}
use Rattle.finite_models.proofs.SumLaws.{over-congr}
use Rattle.finite_models.proofs.Solutions.{IsRanked, solution_is, unique, agree_same}
use Rattle.do_rules.proofs.Altered.{ranked_into, follows_into}
use Rattle.do_rules.proofs.Separation.{separated_independent}
use Rattle.adjustment.proofs.FirstEdges.{cut_arrows}
use Rattle.adjustment.proofs.Walks.{graph_arrows, IsClear}

-- the model in which each arrow of e carries the value of s
abbrev pub hold_arrows : FiniteModel → (ℕ → ℕ → Bool) → (ℕ → ℕ) → FiniteModel
hold_arrows m e s = record m { mechanism = λ v t u. m.mechanism v (λ p. cond (e p v) (s p) (t p)) u }

pub ranked_arrows : (g : MixedGraph) (e : ℕ → ℕ → Bool) (rank : ℕ → ℕ) → IsRanked g rank → IsRanked (cut_arrows g e) rank
ranked_arrows g e rank k = record {
  tail_below = λ u v a. k.tail_below u v (and_parts (g.arrow u v) (not (e u v)) a).0;
  rises = λ u v a. k.rises u v (and_parts (g.arrow u v) (not (e u v)) a).0;
  low = k.low;
}

pub follows_arrows : (g : MixedGraph) (m : FiniteModel) (e : ℕ → ℕ → Bool) (s : ℕ → ℕ) → IsAssignment m.vertices m.size s → Follows g m
    → Follows (cut_arrows g e) (hold_arrows m e s)
follows_arrows g m e s within follows = record {
  vertices = follows.vertices;
  joined = follows.joined;
  reads = λ v il x y u w hp hc. follows.reads v il (λ p. cond (e p v) (s p) (x p)) (λ p. cond (e p v) (s p) (y p)) u w
      (λ p a. mixed v x y p a hp (e p v) refl) hc;
  below = λ v il x u hx hu. follows.below v il (λ p. cond (e p v) (s p) (x p)) u (λ p pl. low p pl (e p v) (x p) (hx p pl)) hu;
  positive_size = follows.positive_size;
}
  where
    mixed : (v : ℕ) (x y : ℕ → ℕ) (p : ℕ) → g.arrow p v ≡ true → ((p : ℕ) → (g.arrow p v && not (e p v)) ≡ true → x p ≡ y p) → (c : Bool) → e p v ≡ c
        → cond (e p v) (s p) (x p) ≡ cond (e p v) (s p) (y p)
    mixed v x y p a hp true k = rw k refl
    mixed v x y p a hp false k = rw k (hp p (and_from (g.arrow p v) (not (e p v)) a (not_from_false (e p v) k)))

    low : (p : ℕ) → p < m.vertices → (c : Bool) (x : ℕ) → x < m.size p → cond c (s p) x < m.size p
    low p pl true x lt = within p pl
    low p pl false x lt = lt

-- events on which two models agree world by world have one weight
worlds_alike : (m : FiniteModel) → (f h : (ℕ → ℕ) → Bool) → ((u : ℕ → ℕ) → f u ≡ h u)
    → sum_over (λ j. true) m.values m.causes (λ u. cond (f u) (world_weight m u) 0) (λ j. 0)
    ≡ sum_over (λ j. true) m.values m.causes (λ u. cond (h u) (world_weight m u) 0) (λ j. 0)
worlds_alike m f h same =
    over-congr (λ j. true) m.values m.causes (λ u. cond (f u) (world_weight m u) 0) (λ u. cond (h u) (world_weight m u) 0) (λ j. 0)
    (λ u. ap (λ k. cond k (world_weight m u) 0) (same u))

module _ (g : MixedGraph) (m : FiniteModel) (rank : ℕ → ℕ) (is_graph : IsMixedGraph g) (ranked : IsRanked g rank) (follows : Follows g m) (a : ℕ → ℕ)
    (within : IsAssignment m.vertices m.size a)
    (E : ℕ → ℕ → Bool) (X Y Z : ℕ → Bool) (tails : (u v : ℕ) → E u v ≡ true → X u ≡ true) where
  sol : (u : ℕ → ℕ) → IsSolution m u (solution m u)
  sol u = solution_is g m rank ranked follows u

  sol_held : (u : ℕ → ℕ) → IsSolution (hold_arrows m E a) u (solution (hold_arrows m E a) u)
  sol_held u = solution_is (cut_arrows g E) (hold_arrows m E a) rank (ranked_arrows g E rank ranked) (follows_arrows g m E a within follows) u

  sol_forced : (u : ℕ → ℕ) → IsSolution (intervene m X a) u (solution (intervene m X a) u)
  sol_forced u = solution_is (cut_into g X) (intervene m X a) rank (ranked_into g X rank ranked) (follows_into g m X a within follows) u

  parent_low : (p v : ℕ) → g.arrow p v ≡ true → p < m.vertices
  parent_low p v k = rw follows.vertices (ranked.tail_below p v k)

  -- a point that has the values of a on X is read alike with the arrows held and not
  read_alike : (u x : ℕ → ℕ) → ((v : ℕ) → v < m.vertices → X v ≡ true → x v ≡ a v) → (v : ℕ) → v < m.vertices
      → m.mechanism v (λ p. cond (E p v) (a p) (x p)) u ≡ m.mechanism v x u
  read_alike u x h v il = follows.reads v il (λ p. cond (E p v) (a p) (x p)) x u u (λ p k. go p (parent_low p v k) (E p v) refl) (λ j jl q. refl)
    where
      go : (p : ℕ) → p < m.vertices → (c : Bool) → E p v ≡ c → cond (E p v) (a p) (x p) ≡ x p
      go p pl true e = cond-true (E p v) (a p) (x p) e ∙ sym (h p pl (tails p v e))
      go p pl false e = cond-false (E p v) (a p) (x p) e

  -- where the event fixes X at the values of a, holding the arrows changes nothing
  held_in : (A : ℕ → Bool) → ((v : ℕ) → X v ≡ true → A v ≡ true) → (c : ℕ → ℕ) → ((v : ℕ) → X v ≡ true → c v ≡ a v) → event_weight (hold_arrows m E a) A c
      ≡ event_weight m A c
  held_in A xa c same =
      worlds_alike m (λ u. agree m.vertices A (solution (hold_arrows m E a) u) c) (λ u. agree m.vertices A (solution m u) c)
      (λ u. agree_same m.vertices A A (solution (hold_arrows m E a) u) (solution m u) c
      (λ f v il e. unique g m rank ranked follows u (solution m u) (solution (hold_arrows m E a) u) (sol u)
      (λ w wl. sol_held u w wl ∙ read_alike u (solution (hold_arrows m E a) u) (λ p pl z. f p pl (xa p z) ∙ same p z) w wl) v il ∙ f v il e)
      (λ f v il e. unique (cut_arrows g E) (hold_arrows m E a) rank (ranked_arrows g E rank ranked) (follows_arrows g m E a within follows) u
      (solution (hold_arrows m E a) u) (solution m u) (sol_held u)
      (λ w wl. sol u w wl ∙ sym (read_alike u (solution m u) (λ p pl z. f p pl (xa p z) ∙ same p z) w wl)) v il ∙ f v il e))

  -- ---- Z isn't below a held arrow
  module _ (clear : IsClear g E Z) where
    above_alike : (u : ℕ → ℕ) (k v : ℕ) → v < m.vertices → rank v < k → IsAncestor g Z v → solution (hold_arrows m E a) u v ≡ solution m u v
    above_alike u zero v il lt i = absurd (omega arith)
    above_alike u (suc k) v il lt i =
        sol_held u v il
        ∙ follows.reads v il (λ p. cond (E p v) (a p) (solution (hold_arrows m E a) u p)) (solution m u) u u
        (λ p k'. let r = ranked.rises p v k' in
        cond-false (E p v) (a p) (solution (hold_arrows m E a) u p) (false_from_ne_true (E p v) (λ e. clear p v k' e i.end i.path i.leads i.inside))
        ∙ above_alike u k p (parent_low p v k') (omega arith) (record {
          vertex = is_graph.tail_below p v k';
          path = v ∷ i.path;
          end = i.end;
          leads = (k', i.leads);
          inside = i.inside;
        }))
        (λ j jl q. refl)
        ∙ sym (sol u v il)

    member_alike : (u : ℕ → ℕ) (v : ℕ) → v < m.vertices → Z v ≡ true → solution (hold_arrows m E a) u v ≡ solution m u v
    member_alike u v il e = above_alike u (suc (rank v)) v il (omega arith)
        (record { vertex = rw (sym follows.vertices) il; path = []; end = v; leads = refl; inside = e })

    held_above : (c : ℕ → ℕ) → event_weight (hold_arrows m E a) Z c ≡ event_weight m Z c
    held_above c =
        worlds_alike m (λ u. agree m.vertices Z (solution (hold_arrows m E a) u) c) (λ u. agree m.vertices Z (solution m u) c)
        (λ u. agree_same m.vertices Z Z (solution (hold_arrows m E a) u) (solution m u) c
        (λ f v il e. sym (member_alike u v il e) ∙ f v il e) (λ f v il e. member_alike u v il e ∙ f v il e))

    -- ---- every arrow from X into a vertex that leads to Y outside X is held
    module _ (cover : (u v : ℕ) → X u ≡ true → g.arrow u v ≡ true → X v ≡ false → IsAncestor (cut_into g X) Y v → E u v ≡ true)
        (apart : (v : ℕ) → X v ≡ true → Y v ≡ false)
        (z_apart : (v : ℕ) → X v ≡ true → Z v ≡ false) (yz_apart : (v : ℕ) → Y v ≡ true → Z v ≡ false) where
      towards_alike : (u : ℕ → ℕ) (k v : ℕ) → v < m.vertices → rank v < k → X v ≡ false → IsAncestor (cut_into g X) Y v → solution (hold_arrows m E a) u v
          ≡ solution (intervene m X a) u v
      towards_alike u zero v il lt o i = absurd (omega arith)
      towards_alike u (suc k) v il lt o i =
          sol_held u v il
          ∙ follows.reads v il (λ p. cond (E p v) (a p) (solution (hold_arrows m E a) u p)) (solution (intervene m X a) u) u u
          (λ p k'. let r = ranked.rises p v k' in
          at p k' (parent_low p v k') (X p) refl (λ o'. towards_alike u k p (parent_low p v k') (omega arith) o'
          (record {
            vertex = is_graph.tail_below p v k';
            path = v ∷ i.path;
            end = i.end;
            leads = (and_from (g.arrow p v) (not (X v)) k' (not_from_false (X v) o), i.leads);
            inside = i.inside;
          })))
          (λ j jl q. refl)
          ∙ sym (cond-false (X v) (a v) (m.mechanism v (solution (intervene m X a) u) u) o)
          ∙ sym (sol_forced u v il)
        where
          at : (p : ℕ) → g.arrow p v ≡ true → p < m.vertices → (c : Bool) → X p ≡ c
              → (X p ≡ false → solution (hold_arrows m E a) u p ≡ solution (intervene m X a) u p)
              → cond (E p v) (a p) (solution (hold_arrows m E a) u p) ≡ solution (intervene m X a) u p
          at p k' pl true e ih =
              cond-true (E p v) (a p) (solution (hold_arrows m E a) u p) (cover p v e k' o i)
              ∙ sym (cond-true (X p) (a p) (m.mechanism p (solution (intervene m X a) u) u) e)
              ∙ sym (sol_forced u p pl)
          at p k' pl false e ih = cond-false (E p v) (a p) (solution (hold_arrows m E a) u p)
              (false_from_ne_true (E p v) (λ k. not_both (X p) (tails p v k) e)) ∙ ih e

      target_alike : (u : ℕ → ℕ) (v : ℕ) → v < m.vertices → Y v ≡ true → solution (hold_arrows m E a) u v ≡ solution (intervene m X a) u v
      target_alike u v il e = towards_alike u (suc (rank v)) v il (omega arith) (false_from_ne_true (X v) (λ x. not_both (Y v) e (apart v x)))
          (record { vertex = rw (sym follows.vertices) il; path = []; end = v; leads = refl; inside = e })

      held_effect : event_weight (hold_arrows m E a) Y a ≡ weight_of m X Y a
      held_effect =
          worlds_alike m (λ u. agree m.vertices Y (solution (hold_arrows m E a) u) a) (λ u. agree m.vertices Y (solution (intervene m X a) u) a)
          (λ u. agree_same m.vertices Y Y (solution (hold_arrows m E a) u) (solution (intervene m X a) u) a
          (λ f v il e. sym (target_alike u v il e) ∙ f v il e) (λ f v il e. target_alike u v il e ∙ f v il e))

      -- the sum of the weights of Y and Z over the values of Z, with the arrows held, is the effect's weight
      pub sum_is_effect : sum_over Z m.size m.vertices (event_weight (hold_arrows m E a) (λ v. Y v || Z v)) a ≡ weight_of m X Y a
      sum_is_effect =
          marginal (cut_arrows g E) (hold_arrows m E a) rank (ranked_arrows g E rank ranked) (follows_arrows g m E a within follows) Y Z a
          (λ v y z. not_both (Z v) z (yz_apart v y)) ∙ held_effect

      module _ (xl : (v : ℕ) → X v ≡ true → v < g.vertices) (yl : (v : ℕ) → Y v ≡ true → v < g.vertices) (zl : (v : ℕ) → Z v ≡ true → v < g.vertices)
          (sep : IsSeparated (cut_arrows g E) X Y Z) where
        -- N(x+y+z) N(z) = N(x+z) N'(y+z), where N' are the weights with the arrows held
        pub term_is : (c : ℕ → ℕ) → ((v : ℕ) → Z v ≡ false → c v ≡ a v)
            → event_weight m (λ v. X v || (Y v || Z v)) c * event_weight m Z c
            ≡ event_weight m (λ v. X v || Z v) c * event_weight (hold_arrows m E a) (λ v. Y v || Z v) c
        term_is c same =
            ap (λ r. r * event_weight m Z c) (sym (held_in (λ v. X v || (Y v || Z v)) (λ v x. or_left (X v) (Y v || Z v) x) c (λ v x. same v (z_apart v x))))
            ∙ ap (λ r. event_weight (hold_arrows m E a) (λ v. X v || (Y v || Z v)) c * r) (sym (held_above c))
            ∙ separated_independent (cut_arrows g E) (hold_arrows m E a) rank (graph_arrows g E is_graph) (ranked_arrows g E rank ranked)
            (follows_arrows g m E a within follows) X Y Z xl yl zl z_apart yz_apart sep c
            ∙ ap (λ r. r * event_weight (hold_arrows m E a) (λ v. Y v || Z v) c)
            (held_in (λ v. X v || Z v) (λ v x. or_left (X v) (Z v) x) c (λ v x. same v (z_apart v x)))
