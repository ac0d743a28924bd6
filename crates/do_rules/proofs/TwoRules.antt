-- The three rules of the do-calculus.
use Rattle.std.proofs.Common.{ℕ, zero, suc, ◌*◌, ◌≡◌, ◌<◌, Bool, true, false, cond, not, refl, sym, ap, ◌∙◌, ◌||◌, arith}
use Rattle.std.proofs.lemmas.Bool.{and_from, cond-false, cond-true, false_from_ne_true, or_left, or_parts, or_right}
use Rattle.mixed_graph.specs.Vocabulary.{MixedGraph, IsMixedGraph}
use Rattle.m_separation.specs.Vocabulary.{IsSeparated}
use Rattle.do_rules.specs.Cuts.{cut_into, cut_out}
use Rattle.do_rules.proofs.Fewer.{graph_into, graph_out}
use Rattle.finite_models.specs.Vocabulary.{FiniteModel, IsAssignment, IsSolution, solution, agree, event_weight, world_weight, intervene, weight_of}
use Rattle.finite_models.proofs.Bools.{either, not_both, or_false}
use Rattle.finite_models.proofs.Following.{Follows}
use Rattle.finite_models.proofs.Solutions.{IsRanked, IsClosed, solution_is, unique, agree_same}
use Rattle.finite_models.proofs.SumLaws.{over-congr}
use Rattle.do_rules.proofs.Altered.{hold, ranked_into, ranked_out, follows_into, follows_hold}
use Rattle.do_rules.proofs.Separation.{separated_independent}

module _ (g : MixedGraph) (m : FiniteModel) (rank : ℕ → ℕ) (is_graph : IsMixedGraph g) (ranked : IsRanked g rank) (follows : Follows g m) (s : ℕ → ℕ)
    (within : IsAssignment m.vertices m.size s) where
  -- under an intervention each intervened vertex has its value, whether or not the event asks for it
  on_held : (X : ℕ → Bool) (u : ℕ → ℕ) (v : ℕ) → v < m.vertices → X v ≡ true → solution (intervene m X s) u v ≡ s v
  on_held X u v il e =
      solution_is (cut_into g X) (intervene m X s) rank (ranked_into g X rank ranked) (follows_into g m X s within follows) u v il
      ∙ cond-true (X v) (s v) (m.mechanism v (solution (intervene m X s) u) u) e

  forced : (X A B : ℕ → Bool) → ((v : ℕ) → X v ≡ false → A v ≡ B v) → weight_of m X A s ≡ weight_of m X B s
  forced X A B h =
      over-congr (λ j. true) m.values m.causes (λ u. cond (agree m.vertices A (solution (intervene m X s) u) s) (world_weight m u) 0)
      (λ u. cond (agree m.vertices B (solution (intervene m X s) u) s) (world_weight m u) 0) (λ j. 0)
      (λ u. ap (λ c. cond c (world_weight m u) 0) (agree_same m.vertices A B (solution (intervene m X s) u) (solution (intervene m X s) u) s
      (λ f v il e. go u v il (X v) refl (λ o. f v il (h v o ∙ e))) (λ f v il e. go u v il (X v) refl (λ o. f v il (sym (h v o) ∙ e)))))
    where
      go : (u : ℕ → ℕ) (v : ℕ) → v < m.vertices → (c : Bool) → X v ≡ c → (X v ≡ false → solution (intervene m X s) u v ≡ s v) → solution (intervene m X s) u v
          ≡ s v
      go u v il true e k = on_held X u v il e
      go u v il false e k = k e

  -- rule 1: observations
  pub rule_1 : (X Y Z W : ℕ → Bool)
      → ((v : ℕ) → X v ≡ true → v < g.vertices) → ((v : ℕ) → Y v ≡ true → v < g.vertices) → ((v : ℕ) → Z v ≡ true → v < g.vertices)
      → ((v : ℕ) → W v ≡ true → v < g.vertices)
      → ((v : ℕ) → Y v ≡ true → (X v || W v) ≡ false) → ((v : ℕ) → Z v ≡ true → (X v || W v) ≡ false)
      → IsSeparated (cut_into g X) Y Z (λ v. X v || W v)
      → weight_of m X (λ v. Y v || (Z v || W v)) s * weight_of m X W s ≡ weight_of m X (λ v. Y v || W v) s * weight_of m X (λ v. Z v || W v) s
  rule_1 X Y Z W xl yl zl wl yo zo sep =
      ap (λ r. r * weight_of m X W s) (forced X (λ v. Y v || (Z v || W v)) (λ v. Y v || (Z v || (X v || W v)))
      (λ v o. ap (λ b. Y v || (Z v || b)) (sym (or_false (X v) (W v) o))))
      ∙ ap (λ r. weight_of m X (λ v. Y v || (Z v || (X v || W v))) s * r) (forced X W (λ v. X v || W v) (λ v o. sym (or_false (X v) (W v) o)))
      ∙ separated_independent (cut_into g X) (intervene m X s) rank (graph_into g X is_graph) (ranked_into g X rank ranked)
      (follows_into g m X s within follows) Y Z (λ v. X v || W v)
      yl zl (λ v e. either (X v) (W v) (v < g.vertices) e (xl v) (wl v)) yo zo sep s
      ∙ ap (λ r. r * weight_of m X (λ v. Z v || (X v || W v)) s) (forced X (λ v. Y v || (X v || W v)) (λ v. Y v || W v)
      (λ v o. ap (λ b. Y v || b) (or_false (X v) (W v) o)))
      ∙ ap (λ r. weight_of m X (λ v. Y v || W v) s * r) (forced X (λ v. Z v || (X v || W v)) (λ v. Z v || W v)
      (λ v o. ap (λ b. Z v || b) (or_false (X v) (W v) o)))

  -- ---- held arrows
  module _ (X Z : ℕ → Bool) (disjoint : (v : ℕ) → Z v ≡ true → X v ≡ false) where
    one : FiniteModel
    one = intervene m X s

    two : FiniteModel
    two = hold (intervene m X s) Z s

    follows_one : Follows (cut_into g X) (intervene m X s)
    follows_one = follows_into g m X s within follows

    follows_two : Follows (cut_out (cut_into g X) Z) (hold (intervene m X s) Z s)
    follows_two = follows_hold (cut_into g X) (intervene m X s) Z s within follows_one

    rank_one : IsRanked (cut_into g X) rank
    rank_one = ranked_into g X rank ranked

    rank_two : IsRanked (cut_out (cut_into g X) Z) rank
    rank_two = ranked_out (cut_into g X) Z rank rank_one

    sol_one : (u : ℕ → ℕ) → IsSolution (intervene m X s) u (solution (intervene m X s) u)
    sol_one u = solution_is (cut_into g X) (intervene m X s) rank rank_one follows_one u

    sol_two : (u : ℕ → ℕ) → IsSolution (hold (intervene m X s) Z s) u (solution (hold (intervene m X s) Z s) u)
    sol_two u = solution_is (cut_out (cut_into g X) Z) (hold (intervene m X s) Z s) rank rank_two follows_two u

    -- a point that has the values of s on Z is read alike with the arrows held and not
    held_alike : (u x : ℕ → ℕ) → ((v : ℕ) → v < m.vertices → Z v ≡ true → x v ≡ s v) → (v : ℕ) → v < m.vertices
        → (intervene m X s).mechanism v (λ p. cond (Z p) (s p) (x p)) u ≡ (intervene m X s).mechanism v x u
    held_alike u x h v il = follows_one.reads v il (λ p. cond (Z p) (s p) (x p)) x u u
        (λ p a. go p (rw follows.vertices (rank_one.tail_below p v a)) (Z p) refl) (λ j jl q. refl)
      where
        go : (p : ℕ) → p < m.vertices → (c : Bool) → Z p ≡ c → cond (Z p) (s p) (x p) ≡ x p
        go p pl true e = cond-true (Z p) (s p) (x p) e ∙ sym (h p pl e)
        go p pl false e = cond-false (Z p) (s p) (x p) e

    -- where the event fixes Z, holding the arrows out of Z changes nothing
    held_in : (A : ℕ → Bool) → ((v : ℕ) → Z v ≡ true → A v ≡ true) → event_weight (hold (intervene m X s) Z s) A s ≡ event_weight (intervene m X s) A s
    held_in A za =
        over-congr (λ j. true) m.values m.causes (λ u. cond (agree m.vertices A (solution (hold (intervene m X s) Z s) u) s) (world_weight m u) 0)
        (λ u. cond (agree m.vertices A (solution (intervene m X s) u) s) (world_weight m u) 0) (λ j. 0)
        (λ u. ap (λ c. cond c (world_weight m u) 0) (agree_same m.vertices A A (solution (hold (intervene m X s) Z s) u) (solution (intervene m X s) u) s
        (λ f v il e. unique (cut_into g X) (intervene m X s) rank rank_one follows_one u (solution (intervene m X s) u)
        (solution (hold (intervene m X s) Z s) u) (sol_one u)
        (λ w wl. sol_two u w wl ∙ held_alike u (solution (hold (intervene m X s) Z s) u) (λ p pl z. f p pl (za p z)) w wl) v il ∙ f v il e)
        (λ f v il e. unique (cut_out (cut_into g X) Z) (hold (intervene m X s) Z s) rank rank_two follows_two u (solution (hold (intervene m X s) Z s) u)
        (solution (intervene m X s) u) (sol_two u)
        (λ w wl. sol_one u w wl ∙ sym (held_alike u (solution (intervene m X s) u) (λ p pl z. f p pl (za p z)) w wl)) v il ∙ f v il e)))

    -- outside Z the solution with held arrows is that under the intervention on X and Z
    outside_z : (u : ℕ → ℕ) (v : ℕ) → v < m.vertices → Z v ≡ false → solution (hold (intervene m X s) Z s) u v ≡ solution (intervene m (λ v. X v || Z v) s) u v
    outside_z u v il o =
        sym (cond-false (Z v) (s v) (solution (hold (intervene m X s) Z s) u v) o)
        ∙ unique (cut_into g (λ v. X v || Z v)) (intervene m (λ v. X v || Z v) s) rank (ranked_into g (λ v. X v || Z v) rank ranked)
        (follows_into g m (λ v. X v || Z v) s within follows) u
        (λ p. cond (Z p) (s p) (solution (hold (intervene m X s) Z s) u p)) (solution (intervene m (λ v. X v || Z v) s) u)
        (λ w wl. at w (X w) (Z w) (sol_two u w wl))
        (solution_is (cut_into g (λ v. X v || Z v)) (intervene m (λ v. X v || Z v) s) rank (ranked_into g (λ v. X v || Z v) rank ranked)
        (follows_into g m (λ v. X v || Z v) s within follows) u) v il
      where
        mixed : ℕ → ℕ
        mixed p = cond (Z p) (s p) (solution (hold (intervene m X s) Z s) u p)

        at : (w : ℕ) (x z : Bool) → solution (hold (intervene m X s) Z s) u w
            ≡ cond x (s w) (m.mechanism w (λ p. cond (Z p) (s p) (solution (hold (intervene m X s) Z s) u p)) u)
            → cond z (s w) (solution (hold (intervene m X s) Z s) u w)
            ≡ cond (x || z) (s w) (m.mechanism w (λ p. cond (Z p) (s p) (solution (hold (intervene m X s) Z s) u p)) u)
        at w true true k = refl
        at w true false k = k
        at w false true k = refl
        at w false false k = k

    held_out : (A : ℕ → Bool) → ((v : ℕ) → A v ≡ true → Z v ≡ false) → event_weight (hold (intervene m X s) Z s) A s ≡ weight_of m (λ v. X v || Z v) A s
    held_out A az =
        over-congr (λ j. true) m.values m.causes (λ u. cond (agree m.vertices A (solution (hold (intervene m X s) Z s) u) s) (world_weight m u) 0)
        (λ u. cond (agree m.vertices A (solution (intervene m (λ v. X v || Z v) s) u) s) (world_weight m u) 0) (λ j. 0)
        (λ u. ap (λ c. cond c (world_weight m u) 0) (agree_same m.vertices A A (solution (hold (intervene m X s) Z s) u)
        (solution (intervene m (λ v. X v || Z v) s) u) s
        (λ f v il e. sym (outside_z u v il (az v e)) ∙ f v il e) (λ f v il e. outside_z u v il (az v e) ∙ f v il e)))

    -- rule 2: actions and observations
    pub rule_2 : (Y W : ℕ → Bool)
        → ((v : ℕ) → X v ≡ true → v < g.vertices) → ((v : ℕ) → Y v ≡ true → v < g.vertices) → ((v : ℕ) → Z v ≡ true → v < g.vertices)
        → ((v : ℕ) → W v ≡ true → v < g.vertices)
        → ((v : ℕ) → Y v ≡ true → (X v || W v) ≡ false) → ((v : ℕ) → Z v ≡ true → (X v || W v) ≡ false) → ((v : ℕ) → Y v ≡ true → Z v ≡ false)
        → IsSeparated (cut_out (cut_into g X) Z) Y Z (λ v. X v || W v)
        → weight_of m (λ v. X v || Z v) (λ v. Y v || W v) s * weight_of m X (λ v. Z v || W v) s
        ≡ weight_of m X (λ v. Y v || (Z v || W v)) s * weight_of m (λ v. X v || Z v) W s
    rule_2 Y W xl yl zl wl yo zo yz sep =
        ap (λ r. r * weight_of m X (λ v. Z v || W v) s) (sym two_y)
        ∙ ap (λ r. event_weight (hold (intervene m X s) Z s) (λ v. Y v || (X v || W v)) s * r) (sym two_z)
        ∙ sym (separated_independent (cut_out (cut_into g X) Z) (hold (intervene m X s) Z s) rank (graph_out (cut_into g X) Z (graph_into g X is_graph))
        rank_two follows_two Y Z (λ v. X v || W v)
        yl zl (λ v e. either (X v) (W v) (v < g.vertices) e (xl v) (wl v)) yo zo sep s)
        ∙ ap (λ r. r * event_weight (hold (intervene m X s) Z s) (λ v. X v || W v) s) two_yz
        ∙ ap (λ r. weight_of m X (λ v. Y v || (Z v || W v)) s * r) two_w
      where
        two_y : event_weight (hold (intervene m X s) Z s) (λ v. Y v || (X v || W v)) s ≡ weight_of m (λ v. X v || Z v) (λ v. Y v || W v) s
        two_y = held_out (λ v. Y v || (X v || W v)) (λ v e. false_from_ne_true (Z v)
            (λ z. either (Y v) (X v || W v) ⊥ e (λ y. not_both (Z v) z (yz v y)) (λ w. not_both (X v || W v) w (zo v z))))
            ∙ forced (λ v. X v || Z v) (λ v. Y v || (X v || W v)) (λ v. Y v || W v)
            (λ v o. ap (λ b. Y v || b) (or_false (X v) (W v) (or_parts (X v) (Z v) o).0))

        two_z : event_weight (hold (intervene m X s) Z s) (λ v. Z v || (X v || W v)) s ≡ weight_of m X (λ v. Z v || W v) s
        two_z = held_in (λ v. Z v || (X v || W v)) (λ v z. or_left (Z v) (X v || W v) z)
            ∙ forced X (λ v. Z v || (X v || W v)) (λ v. Z v || W v) (λ v o. ap (λ b. Z v || b) (or_false (X v) (W v) o))

        two_yz : event_weight (hold (intervene m X s) Z s) (λ v. Y v || (Z v || (X v || W v))) s ≡ weight_of m X (λ v. Y v || (Z v || W v)) s
        two_yz = held_in (λ v. Y v || (Z v || (X v || W v))) (λ v z. or_right (Y v) (Z v || (X v || W v)) (or_left (Z v) (X v || W v) z))
            ∙ forced X (λ v. Y v || (Z v || (X v || W v))) (λ v. Y v || (Z v || W v)) (λ v o. ap (λ b. Y v || (Z v || b)) (or_false (X v) (W v) o))

        two_w : event_weight (hold (intervene m X s) Z s) (λ v. X v || W v) s ≡ weight_of m (λ v. X v || Z v) W s
        two_w = held_out (λ v. X v || W v) (λ v e. false_from_ne_true (Z v) (λ z. not_both (X v || W v) e (zo v z)))
            ∙ forced (λ v. X v || Z v) (λ v. X v || W v) W (λ v o. or_false (X v) (W v) (or_parts (X v) (Z v) o).0)

  -- an intervention on vertices outside a set that is closed under parents changes nothing on it
  pub further : (X Z C A : ℕ → Bool) → IsClosed (cut_into g X) C → ((v : ℕ) → C v ≡ true → Z v ≡ false) → ((v : ℕ) → A v ≡ true → C v ≡ true)
      → weight_of m (λ v. X v || Z v) A s ≡ weight_of m X A s
  further X Z C A closed cz ac =
      over-congr (λ j. true) m.values m.causes (λ u. cond (agree m.vertices A (solution (intervene m (λ v. X v || Z v) s) u) s) (world_weight m u) 0)
      (λ u. cond (agree m.vertices A (solution (intervene m X s) u) s) (world_weight m u) 0) (λ j. 0)
      (λ u. ap (λ c. cond c (world_weight m u) 0) (agree_same m.vertices A A (solution (intervene m (λ v. X v || Z v) s) u) (solution (intervene m X s) u) s
      (λ f v il e. sym (alike u (suc (rank v)) v il (omega arith) (ac v e)) ∙ f v il e)
      (λ f v il e. alike u (suc (rank v)) v il (omega arith) (ac v e) ∙ f v il e)))
    where
      alike : (u : ℕ → ℕ) (k v : ℕ) → v < m.vertices → rank v < k → C v ≡ true → solution (intervene m (λ v. X v || Z v) s) u v ≡ solution (intervene m X s) u v
      alike u zero v il lt c = absurd (omega arith)
      alike u (suc k) v il lt c =
          solution_is (cut_into g (λ v. X v || Z v)) (intervene m (λ v. X v || Z v) s) rank (ranked_into g (λ v. X v || Z v) rank ranked)
          (follows_into g m (λ v. X v || Z v) s within follows) u v il
          ∙ at (X v) (Z v) refl (cz v c) (λ p pl r. alike u k p pl r)
          ∙ sym (solution_is (cut_into g X) (intervene m X s) rank (ranked_into g X rank ranked) (follows_into g m X s within follows) u v il)
        where
          at : (x z : Bool) → X v ≡ x → z ≡ false
              → ((p : ℕ) → p < m.vertices → rank p < k → C p ≡ true → solution (intervene m (λ v. X v || Z v) s) u p ≡ solution (intervene m X s) u p)
              → cond (x || z) (s v) (m.mechanism v (solution (intervene m (λ v. X v || Z v) s) u) u)
              ≡ cond x (s v) (m.mechanism v (solution (intervene m X s) u) u)
          at true z ex ez ih = refl
          at false true ex ez ih = absurd (grind (arith, ez))
          at false false ex ez ih =
              follows.reads v il (solution (intervene m (λ v. X v || Z v) s) u) (solution (intervene m X s) u) u u
              (λ p a. let r = ranked.rises p v a in ih p (rw follows.vertices (ranked.tail_below p v a)) (omega arith)
              (closed p v (and_from (g.arrow p v) (not (X v)) a (rw ex refl)) c))
              (λ j jl q. refl)
