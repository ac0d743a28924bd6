-- What is seen at a level of the instrument, by the outcomes under both values of the treatment.
use Rattle.std.proofs.Common.{ℕ, zero, suc, ◌+◌, ◌*◌, ◌≡◌, ◌<◌, ◌≤◌, Bool, true, false, cond, not, ◌&&◌, ◌||◌, ◌∷◌, [], ◌++◌, refl, sym, ap, ap₂, ◌∙◌, subst, arith}
use Rattle.std.proofs.lemmas.Bool.{and_from, cond-true, false_from_ne_true, not_from_false, not-true, or_left, or_right, or_from}
use Rattle.mixed_graph.specs.Vocabulary.{MixedGraph, IsMixedGraph, IsDescendant}
use Rattle.mixed_graph.proofs.Paths.{path_push}
use Rattle.m_separation.specs.Vocabulary.{IsSeparated}
use Rattle.do_rules.specs.Vocabulary.{cut_into, AreFourSets}
use Rattle.do_rules.proofs.Altered.{ranked_into, follows_into}
use Rattle.do_rules.proofs.TwoRules.{rule_1}
use Rattle.finite_models.specs.Vocabulary.{FiniteModel, IsAssignment, IsWorld, IsSolution, solution, agree, event_weight, world_weight, intervene, weight_of}
use Rattle.finite_models.proofs.Bools.{and_first, and_second, either, not_both, same_truth}
use Rattle.finite_models.proofs.Following.{Follows, follows_intervene, intervene_alike}
use Rattle.finite_models.proofs.Positive.{over-mono}
use Rattle.finite_models.proofs.Solutions.{IsRanked, solution_is, solution_within, unique, agree_gives, agree_from}
use Rattle.finite_models.proofs.SumLaws.{over-congr_within, over-add}
use Rattle.natural_bounds.specs.Vocabulary.{nothing}
use Rattle.crossed_bounds.specs.Crossed.{at_level}
use Rattle.crossed_bounds.proofs.Pairs.{weight_where, in_both, independent_pairs}

-- ---- weights of tests of worlds
pub where_same : (m : FiniteModel) (c d : (ℕ → ℕ) → Bool) → ((u : ℕ → ℕ) → IsWorld m u → c u ≡ d u) → weight_where m c ≡ weight_where m d
where_same m c d h = over-congr_within (λ j. true) m.values m.causes (λ u. cond (c u) (world_weight m u) 0) (λ u. cond (d u) (world_weight m u) 0) (λ j. 0)
    (λ u inside same. ap (λ b. cond b (world_weight m u) 0) (h u (λ j jl. inside j jl refl)))

cond-le : (p q : Bool) (n : ℕ) → (p ≡ true → q ≡ true) → cond p n 0 ≤ cond q n 0
cond-le true q n h = rw (h refl) (omega arith)
cond-le false q n h = omega arith

pub where_le : (m : FiniteModel) (c d : (ℕ → ℕ) → Bool) → ((u : ℕ → ℕ) → c u ≡ true → d u ≡ true) → weight_where m c ≤ weight_where m d
where_le m c d h = over-mono (λ j. true) m.values m.causes (λ u. cond (c u) (world_weight m u) 0) (λ u. cond (d u) (world_weight m u) 0) (λ j. 0)
    (λ u. cond-le (c u) (d u) (world_weight m u) (h u))

-- a world with c is one with d or one with e
pub where_either : (m : FiniteModel) (c d e : (ℕ → ℕ) → Bool) → ((u : ℕ → ℕ) → cond (c u) (world_weight m u) 0 ≤ cond (d u) (world_weight m u) 0
    + cond (e u) (world_weight m u) 0) → weight_where m c ≤ weight_where m d + weight_where m e
where_either m c d e h =
    let le = over-mono (λ j. true) m.values m.causes (λ u. cond (c u) (world_weight m u) 0)
    (λ u. cond (d u) (world_weight m u) 0 + cond (e u) (world_weight m u) 0) (λ j. 0) h in
    let a = over-add (λ j. true) m.values m.causes (λ u. cond (d u) (world_weight m u) 0) (λ u. cond (e u) (world_weight m u) 0) (λ j. 0) in
    rw (sym a) le

-- two tests that no world meets together
pub where_both : (m : FiniteModel) (c d e : (ℕ → ℕ) → Bool) → ((u : ℕ → ℕ) → cond (c u) (world_weight m u) 0 + cond (d u) (world_weight m u) 0
    ≤ cond (e u) (world_weight m u) 0) → weight_where m c + weight_where m d ≤ weight_where m e
where_both m c d e h =
    let le = over-mono (λ j. true) m.values m.causes (λ u. cond (c u) (world_weight m u) 0 + cond (d u) (world_weight m u) 0)
    (λ u. cond (e u) (world_weight m u) 0) (λ j. 0) h in
    let a = over-add (λ j. true) m.values m.causes (λ u. cond (c u) (world_weight m u) 0) (λ u. cond (d u) (world_weight m u) 0) (λ j. 0) in
    rw (sym a) le

agree_none : (n : ℕ) (t c : ℕ → ℕ) → agree n nothing t c ≡ true
agree_none n t c = agree_from n nothing t c (λ v vl e. absurd (grind (arith, e)))

module _ (g : MixedGraph) (m : FiniteModel) (rank : ℕ → ℕ) (ok : IsMixedGraph g) (ranked : IsRanked g rank) (follows : Follows g m)
    (x y z w : ℕ → Bool) (sets : AreFourSets g.vertices x y z w) (unmoved : (v : ℕ) → (z v || w v) ≡ true → IsDescendant g x v → ⊥)
    (separated : IsSeparated (cut_into g x) y z (λ v. x v || w v))
    (s o : ℕ → ℕ) (s_in : IsAssignment m.vertices m.size s) (o_in : IsAssignment m.vertices m.size o)
    (same : (v : ℕ) → x v ≡ false → o v ≡ s v)
    (differ : (u : ℕ → ℕ) → agree m.vertices x u s ≡ true → agree m.vertices x u o ≡ true → ⊥)
    (two : (u : ℕ → ℕ) → IsAssignment m.vertices m.size u → agree m.vertices x u s ≡ false → agree m.vertices x u o ≡ true) where
  abbrev plain : (ℕ → ℕ) → ℕ → ℕ
  plain u = solution (intervene m nothing s) u

  abbrev under : (t u : ℕ → ℕ) → ℕ → ℕ
  under t u = solution (intervene m x t) u

  -- ---- one world
  plain_is : (u : ℕ → ℕ) → IsSolution (intervene m nothing s) u (plain u)
  plain_is u = solution_is g (intervene m nothing s) rank ranked (follows_intervene g m nothing s s_in follows) u

  module _ (t : ℕ → ℕ) (t_in : IsAssignment m.vertices m.size t) where
    under_is : (u : ℕ → ℕ) → IsSolution (intervene m x t) u (under t u)
    under_is u = solution_is (cut_into g x) (intervene m x t) rank (ranked_into g x rank ranked) (follows_into g m x t t_in follows) u

    -- under do(x) the members of x have their values
    held : (u : ℕ → ℕ) (v : ℕ) → v < m.vertices → x v ≡ true → under t u v ≡ t v
    held u v vl e = under_is u v vl ∙ cond-true (x v) (t v) (m.mechanism v (under t u) u) e

    -- consistency: a world that shows the values of t on x is as under do(x)
    consistent : (u : ℕ → ℕ) → agree m.vertices x (plain u) t ≡ true → (v : ℕ) → v < m.vertices → plain u v ≡ under t u v
    consistent u h = unique (cut_into g x) (intervene m x t) rank (ranked_into g x rank ranked) (follows_into g m x t t_in follows) u (plain u) (under t u)
        (λ v vl. at v (x v) (λ e. agree_gives m.vertices x (plain u) t h v vl e) (plain_is u v vl)) (under_is u)
      where
        at : (v : ℕ) (c : Bool) → (c ≡ true → plain u v ≡ t v) → plain u v ≡ m.mechanism v (plain u) u
            → plain u v ≡ cond c (t v) (m.mechanism v (plain u) u)
        at v true k e = k refl
        at v false k e = e

    -- do(x) changes nothing of what isn't below x
    alike : (u : ℕ → ℕ) (k v : ℕ) → v < m.vertices → rank v < k → (IsDescendant g x v → ⊥) → under t u v ≡ plain u v
    alike u zero v vl lt out = absurd (omega arith)
    alike u (suc k) v vl lt out = under_is u v vl ∙ at (x v) refl (λ p pl r d. alike u k p pl r d) ∙ sym (plain_is u v vl)
      where
        vertex : v < g.vertices
        vertex = subst (λ n. v < n) follows.vertices vl

        at : (c : Bool) → x v ≡ c
            → ((p : ℕ) → p < m.vertices → rank p < k → (IsDescendant g x p → ⊥) → under t u p ≡ plain u p)
            → cond c (t v) (m.mechanism v (under t u) u) ≡ m.mechanism v (plain u) u
        at true e ih = absurd (out (record { vertex = vertex; path = []; start = v; leads = refl; inside = e }))
        at false e ih = follows.reads v vl (under t u) (plain u) u u
            (λ p a. let r = ranked.rises p v a in ih p (rw follows.vertices (ranked.tail_below p v a)) (omega arith)
            (λ d. out (record { vertex = vertex; path = d.path ++ v ∷ []; start = d.start; leads = path_push g d.start p v d.path d.leads a; inside = d.inside })))
            (λ j jl q. refl)

    kept : (u : ℕ → ℕ) (v : ℕ) → v < m.vertices → (z v || w v) ≡ true → under t u v ≡ plain u v
    kept u v vl i = alike u (suc (rank v)) v vl (omega arith) (unmoved v i)

  plain_within : (u : ℕ → ℕ) → IsWorld m u → IsAssignment m.vertices m.size (plain u)
  plain_within u world = solution_within g (intervene m nothing s) (follows_intervene g m nothing s s_in follows) u world

  -- ---- sets
  turned : (a b : ℕ → Bool) → ((v : ℕ) → a v ≡ true → b v ≡ false) → (v : ℕ) → b v ≡ true → a v ≡ false
  turned a b h v e = false_from_ne_true (a v) (λ k. not_both (b v) e (h v k))

  -- ---- tests of worlds
  -- it shows the values of s on x
  abbrev pub shows : (ℕ → ℕ) → Bool
  shows u = agree m.vertices x (plain u) s

  -- y has the values of s under do(x) at s
  abbrev pub first : (ℕ → ℕ) → Bool
  first u = agree m.vertices y (under s u) s

  -- y has the values of c under do(x) at o
  abbrev pub second : (c u : ℕ → ℕ) → Bool
  second c u = agree m.vertices y (under o u) c

  -- z and w have the values of r
  abbrev pub has_level : (r u : ℕ → ℕ) → Bool
  has_level r u = agree m.vertices (λ v. z v || w v) (plain u) r

  -- w has the values of s
  abbrev pub in_stratum : (ℕ → ℕ) → Bool
  in_stratum u = agree m.vertices w (plain u) s

  -- the worlds with a test and an outcome under the other value
  abbrev pub with_second : ((ℕ → ℕ) → Bool) → (ℕ → ℕ) → ℕ
  with_second d c = weight_where m (λ u. d u && second c u)

  -- W_x(y, w)
  pub done_weight : weight_of m x (λ v. y v || w v) s ≡ weight_where m (λ u. first u && in_stratum u)
  done_weight = where_same m (λ u. agree m.vertices (λ v. y v || w v) (under s u) s) (λ u. first u && in_stratum u)
      (λ u world. same_truth (agree m.vertices (λ v. y v || w v) (under s u) s) (first u && in_stratum u)
      (λ h. let at = agree_gives m.vertices (λ v. y v || w v) (under s u) s h in
      and_from (first u) (in_stratum u) (agree_from m.vertices y (under s u) s (λ v vl i. at v vl (or_left (y v) (w v) i)))
      (agree_from m.vertices w (plain u) s (λ v vl i. sym (kept s s_in u v vl (or_right (z v) (w v) i)) ∙ at v vl (or_right (y v) (w v) i))))
      (λ h. agree_from m.vertices (λ v. y v || w v) (under s u) s (λ v vl i. either (y v) (w v) (under s u v ≡ s v) i
      (λ e. agree_gives m.vertices y (under s u) s (and_first (first u) (in_stratum u) h) v vl e)
      (λ e. kept s s_in u v vl (or_right (z v) (w v) e) ∙ agree_gives m.vertices w (plain u) s (and_second (first u) (in_stratum u) h) v vl e))))

  module _ (r : ℕ → ℕ) (r_in : IsAssignment m.vertices m.size r) (r_same : (v : ℕ) → z v ≡ false → r v ≡ s v) where
    r_x : (v : ℕ) → x v ≡ true → r v ≡ s v
    r_x v e = r_same v (sets.x_z v e)

    r_y : (v : ℕ) → y v ≡ true → r v ≡ s v
    r_y v e = r_same v (sets.y_z v e)

    r_w : (v : ℕ) → w v ≡ true → r v ≡ s v
    r_w v e = r_same v (turned z w sets.z_w v e)

    plain_event : (a : ℕ → Bool) (t : ℕ → ℕ) → weight_of m nothing a t ≡ weight_where m (λ u. agree m.vertices a (plain u) t)
    plain_event a t = ap (λ k. event_weight k a t) (intervene_alike m nothing t s (λ v e. absurd (grind (arith, e))))

    stratum_same : (u : ℕ → ℕ) → agree m.vertices w (plain u) r ≡ in_stratum u
    stratum_same u = same_truth (agree m.vertices w (plain u) r) (in_stratum u)
        (λ h. agree_from m.vertices w (plain u) s (λ v vl i. agree_gives m.vertices w (plain u) r h v vl i ∙ r_w v i))
        (λ h. agree_from m.vertices w (plain u) r (λ v vl i. agree_gives m.vertices w (plain u) s h v vl i ∙ sym (r_w v i)))

    pub level_weight : weight_of m nothing (λ v. z v || w v) r ≡ weight_where m (has_level r)
    level_weight = plain_event (λ v. z v || w v) r

    pub joint_weight : weight_of m nothing (λ v. x v || (y v || (z v || w v))) r ≡ weight_where m (λ u. shows u && (first u && has_level r u))
    joint_weight = plain_event (λ v. x v || (y v || (z v || w v))) r
        ∙ where_same m (λ u. agree m.vertices (λ v. x v || (y v || (z v || w v))) (plain u) r) (λ u. shows u && (first u && has_level r u))
        (λ u world. same_truth (agree m.vertices (λ v. x v || (y v || (z v || w v))) (plain u) r) (shows u && (first u && has_level r u)) (there u) (back u))
      where
        there : (u : ℕ → ℕ) → agree m.vertices (λ v. x v || (y v || (z v || w v))) (plain u) r ≡ true → (shows u && (first u && has_level r u)) ≡ true
        there u h =
            let at = agree_gives m.vertices (λ v. x v || (y v || (z v || w v))) (plain u) r h in
            let shown : shows u ≡ true = agree_from m.vertices x (plain u) s (λ v vl i. at v vl (or_left (x v) (y v || (z v || w v)) i) ∙ r_x v i) in
            and_from (shows u) (first u && has_level r u) shown (and_from (first u) (has_level r u)
            (agree_from m.vertices y (under s u) s (λ v vl i. sym (consistent s s_in u shown v vl)
            ∙ at v vl (or_right (x v) (y v || (z v || w v)) (or_left (y v) (z v || w v) i)) ∙ r_y v i))
            (agree_from m.vertices (λ v. z v || w v) (plain u) r
            (λ v vl i. at v vl (or_right (x v) (y v || (z v || w v)) (or_right (y v) (z v || w v) i)))))

        back : (u : ℕ → ℕ) → (shows u && (first u && has_level r u)) ≡ true → agree m.vertices (λ v. x v || (y v || (z v || w v))) (plain u) r ≡ true
        back u h =
            let shown = and_first (shows u) (first u && has_level r u) h in
            let rest = and_second (shows u) (first u && has_level r u) h in
            agree_from m.vertices (λ v. x v || (y v || (z v || w v))) (plain u) r
            (λ v vl i. either (x v) (y v || (z v || w v)) (plain u v ≡ r v) i
            (λ e. agree_gives m.vertices x (plain u) s shown v vl e ∙ sym (r_x v e))
            (λ k. either (y v) (z v || w v) (plain u v ≡ r v) k
            (λ e. consistent s s_in u shown v vl ∙ agree_gives m.vertices y (under s u) s (and_first (first u) (has_level r u) rest) v vl e ∙ sym (r_y v e))
            (λ e. agree_gives m.vertices (λ v. z v || w v) (plain u) r (and_second (first u) (has_level r u) rest) v vl e)))

    -- ---- with an outcome under the other value
    module _ (c : ℕ → ℕ) (c_in : IsAssignment m.vertices m.size c) (c_same : (v : ℕ) → y v ≡ false → c v ≡ o v) where
      b_in : IsAssignment m.vertices m.size (at_level z r c)
      b_in v vl = at (z v)
        where
          at : (k : Bool) → cond k (r v) (c v) < m.size v
          at true = r_in v vl
          at false = c_in v vl

      off : (v : ℕ) → z v ≡ false → at_level z r c v ≡ c v
      off v e = rw e refl

      b_x : (v : ℕ) → x v ≡ true → at_level z r c v ≡ o v
      b_x v e = off v (sets.x_z v e) ∙ c_same v (sets.x_y v e)

      b_y : (v : ℕ) → y v ≡ true → at_level z r c v ≡ c v
      b_y v e = off v (sets.y_z v e)

      b_zw : (v : ℕ) → (z v || w v) ≡ true → at_level z r c v ≡ r v
      b_zw v i = either (z v) (w v) (at_level z r c v ≡ r v) i (λ e. rw e refl)
          (λ e. off v (turned z w sets.z_w v e) ∙ c_same v (turned y w sets.y_w v e) ∙ same v (turned x w sets.x_w v e) ∙ sym (r_w v e))

      pub other_weight : weight_of m nothing (λ v. x v || (y v || (z v || w v))) (at_level z r c)
          ≡ with_second (λ u. not (shows u) && has_level r u) c
      other_weight = plain_event (λ v. x v || (y v || (z v || w v))) (at_level z r c)
          ∙ where_same m (λ u. agree m.vertices (λ v. x v || (y v || (z v || w v))) (plain u) (at_level z r c))
          (λ u. (not (shows u) && has_level r u) && second c u)
          (λ u world. same_truth (agree m.vertices (λ v. x v || (y v || (z v || w v))) (plain u) (at_level z r c))
          ((not (shows u) && has_level r u) && second c u) (there u) (back u world))
        where
          there : (u : ℕ → ℕ) → agree m.vertices (λ v. x v || (y v || (z v || w v))) (plain u) (at_level z r c) ≡ true
              → ((not (shows u) && has_level r u) && second c u) ≡ true
          there u h =
              let at = agree_gives m.vertices (λ v. x v || (y v || (z v || w v))) (plain u) (at_level z r c) h in
              let shown : agree m.vertices x (plain u) o ≡ true =
              agree_from m.vertices x (plain u) o (λ v vl i. at v vl (or_left (x v) (y v || (z v || w v)) i) ∙ b_x v i) in
              and_from (not (shows u) && has_level r u) (second c u)
              (and_from (not (shows u)) (has_level r u) (not_from_false (shows u) (false_from_ne_true (shows u) (λ k. differ (plain u) k shown)))
              (agree_from m.vertices (λ v. z v || w v) (plain u) r
              (λ v vl i. at v vl (or_right (x v) (y v || (z v || w v)) (or_right (y v) (z v || w v) i)) ∙ b_zw v i)))
              (agree_from m.vertices y (under o u) c (λ v vl i. sym (consistent o o_in u shown v vl)
              ∙ at v vl (or_right (x v) (y v || (z v || w v)) (or_left (y v) (z v || w v) i)) ∙ b_y v i))

          back : (u : ℕ → ℕ) → IsWorld m u → ((not (shows u) && has_level r u) && second c u) ≡ true
              → agree m.vertices (λ v. x v || (y v || (z v || w v))) (plain u) (at_level z r c) ≡ true
          back u world h =
              let left = and_first (not (shows u) && has_level r u) (second c u) h in
              let shown = two (plain u) (plain_within u world) (not-true (shows u) (and_first (not (shows u)) (has_level r u) left)) in
              agree_from m.vertices (λ v. x v || (y v || (z v || w v))) (plain u) (at_level z r c)
              (λ v vl i. either (x v) (y v || (z v || w v)) (plain u v ≡ at_level z r c v) i
              (λ e. agree_gives m.vertices x (plain u) o shown v vl e ∙ sym (b_x v e))
              (λ k. either (y v) (z v || w v) (plain u v ≡ at_level z r c v) k
              (λ e. consistent o o_in u shown v vl
              ∙ agree_gives m.vertices y (under o u) c (and_second (not (shows u) && has_level r u) (second c u) h) v vl e ∙ sym (b_y v e))
              (λ e. agree_gives m.vertices (λ v. z v || w v) (plain u) r (and_second (not (shows u)) (has_level r u) left) v vl e ∙ sym (b_zw v e))))

      -- parts of y and z, under both values of x
      module _ (p q : ℕ → Bool) (p_in : (v : ℕ) → p v ≡ true → y v ≡ true) (q_in : (v : ℕ) → q v ≡ true → z v ≡ true) where
        in_zw : (v : ℕ) → (q v || w v) ≡ true → (z v || w v) ≡ true
        in_zw v i = either (q v) (w v) ((z v || w v) ≡ true) i (λ e. or_left (z v) (w v) (q_in v e)) (λ e. or_right (z v) (w v) e)

        in_part : (v : ℕ) → (q v || (x v || w v)) ≡ true → (x v ≡ true → ⊥) → (q v || w v) ≡ true
        in_part v i none = either (q v) (x v || w v) ((q v || w v) ≡ true) i (λ e. or_left (q v) (w v) e)
            (λ k. either (x v) (w v) ((q v || w v) ≡ true) k (λ e. absurd (none e)) (λ e. or_right (q v) (w v) e))

        both_parts : (u : ℕ → ℕ) → (agree m.vertices (λ v. p v || (q v || (x v || w v))) (under s u) r
            && agree m.vertices (λ v. p v || (q v || (x v || w v))) (under o u) (at_level z r c))
            ≡ ((agree m.vertices p (under s u) s && agree m.vertices (λ v. q v || w v) (plain u) r) && agree m.vertices p (under o u) c)
        both_parts u = same_truth (agree m.vertices (λ v. p v || (q v || (x v || w v))) (under s u) r
            && agree m.vertices (λ v. p v || (q v || (x v || w v))) (under o u) (at_level z r c))
            ((agree m.vertices p (under s u) s && agree m.vertices (λ v. q v || w v) (plain u) r) && agree m.vertices p (under o u) c) there back
          where
            all : ℕ → Bool
            all v = p v || (q v || (x v || w v))

            there : (agree m.vertices all (under s u) r && agree m.vertices all (under o u) (at_level z r c)) ≡ true
                → ((agree m.vertices p (under s u) s && agree m.vertices (λ v. q v || w v) (plain u) r) && agree m.vertices p (under o u) c) ≡ true
            there h =
                let one = agree_gives m.vertices all (under s u) r
                (and_first (agree m.vertices all (under s u) r) (agree m.vertices all (under o u) (at_level z r c)) h) in
                let more = agree_gives m.vertices all (under o u) (at_level z r c)
                (and_second (agree m.vertices all (under s u) r) (agree m.vertices all (under o u) (at_level z r c)) h) in
                and_from (agree m.vertices p (under s u) s && agree m.vertices (λ v. q v || w v) (plain u) r) (agree m.vertices p (under o u) c)
                (and_from (agree m.vertices p (under s u) s) (agree m.vertices (λ v. q v || w v) (plain u) r)
                (agree_from m.vertices p (under s u) s (λ v vl i. one v vl (or_left (p v) (q v || (x v || w v)) i) ∙ r_y v (p_in v i)))
                (agree_from m.vertices (λ v. q v || w v) (plain u) r (λ v vl i. sym (kept s s_in u v vl (in_zw v i))
                ∙ one v vl (or_right (p v) (q v || (x v || w v)) (either (q v) (w v) ((q v || (x v || w v)) ≡ true) i
                (λ e. or_left (q v) (x v || w v) e) (λ e. or_right (q v) (x v || w v) (or_right (x v) (w v) e)))))))
                (agree_from m.vertices p (under o u) c (λ v vl i. more v vl (or_left (p v) (q v || (x v || w v)) i) ∙ b_y v (p_in v i)))

            back : ((agree m.vertices p (under s u) s && agree m.vertices (λ v. q v || w v) (plain u) r) && agree m.vertices p (under o u) c) ≡ true
                → (agree m.vertices all (under s u) r && agree m.vertices all (under o u) (at_level z r c)) ≡ true
            back h =
                let left = and_first (agree m.vertices p (under s u) s && agree m.vertices (λ v. q v || w v) (plain u) r) (agree m.vertices p (under o u) c) h in
                let one = agree_gives m.vertices p (under s u) s
                (and_first (agree m.vertices p (under s u) s) (agree m.vertices (λ v. q v || w v) (plain u) r) left) in
                let seen = agree_gives m.vertices (λ v. q v || w v) (plain u) r
                (and_second (agree m.vertices p (under s u) s) (agree m.vertices (λ v. q v || w v) (plain u) r) left) in
                let more = agree_gives m.vertices p (under o u) c
                (and_second (agree m.vertices p (under s u) s && agree m.vertices (λ v. q v || w v) (plain u) r) (agree m.vertices p (under o u) c) h) in
                and_from (agree m.vertices all (under s u) r) (agree m.vertices all (under o u) (at_level z r c))
                (agree_from m.vertices all (under s u) r (λ v vl i. either (p v) (q v || (x v || w v)) (under s u v ≡ r v) i
                (λ e. one v vl e ∙ sym (r_y v (p_in v e)))
                (λ k. by_x (x v) (λ e. held s s_in u v vl e ∙ sym (r_x v e))
                (λ out. let j = in_part v k out in kept s s_in u v vl (in_zw v j) ∙ seen v vl j))))
                (agree_from m.vertices all (under o u) (at_level z r c) (λ v vl i. either (p v) (q v || (x v || w v)) (under o u v ≡ at_level z r c v) i
                (λ e. more v vl e ∙ sym (b_y v (p_in v e)))
                (λ k. by_x (x v) (λ e. held o o_in u v vl e ∙ sym (b_x v e))
                (λ out. let j = in_part v k out in kept o o_in u v vl (in_zw v j) ∙ seen v vl j ∙ sym (b_zw v (in_zw v j))))))
              where
                by_x : {A : Type 0} → (k : Bool) → (k ≡ true → A) → ((k ≡ true → ⊥) → A) → A
                by_x true a b = a refl
                by_x false a b = b (λ e. absurd (grind (arith, e)))

        -- and under the other value alone
        other_part : (u : ℕ → ℕ) → agree m.vertices (λ v. p v || (q v || w v)) (under o u) (at_level z r c)
            ≡ (agree m.vertices (λ v. q v || w v) (plain u) r && agree m.vertices p (under o u) c)
        other_part u = same_truth (agree m.vertices (λ v. p v || (q v || w v)) (under o u) (at_level z r c))
            (agree m.vertices (λ v. q v || w v) (plain u) r && agree m.vertices p (under o u) c)
            (λ h. let at = agree_gives m.vertices (λ v. p v || (q v || w v)) (under o u) (at_level z r c) h in
            and_from (agree m.vertices (λ v. q v || w v) (plain u) r) (agree m.vertices p (under o u) c)
            (agree_from m.vertices (λ v. q v || w v) (plain u) r (λ v vl i. sym (kept o o_in u v vl (in_zw v i))
            ∙ at v vl (or_right (p v) (q v || w v) i) ∙ b_zw v (in_zw v i)))
            (agree_from m.vertices p (under o u) c (λ v vl i. at v vl (or_left (p v) (q v || w v) i) ∙ b_y v (p_in v i))))
            (λ h. let seen = agree_gives m.vertices (λ v. q v || w v) (plain u) r
            (and_first (agree m.vertices (λ v. q v || w v) (plain u) r) (agree m.vertices p (under o u) c) h) in
            let more = agree_gives m.vertices p (under o u) c
            (and_second (agree m.vertices (λ v. q v || w v) (plain u) r) (agree m.vertices p (under o u) c) h) in
            agree_from m.vertices (λ v. p v || (q v || w v)) (under o u) (at_level z r c)
            (λ v vl i. either (p v) (q v || w v) (under o u v ≡ at_level z r c v) i (λ e. more v vl e ∙ sym (b_y v (p_in v e)))
            (λ j. kept o o_in u v vl (in_zw v j) ∙ seen v vl j ∙ sym (b_zw v (in_zw v j)))))

      given_below : (v : ℕ) → (x v || w v) ≡ true → v < g.vertices
      given_below v i = either (x v) (w v) (v < g.vertices) i (sets.x_within v) (sets.w_within v)

      y_given : (v : ℕ) → y v ≡ true → (x v || w v) ≡ false
      y_given v i = or_from (x v) (w v) (turned x y sets.x_y v i) (sets.y_w v i)

      z_given : (v : ℕ) → z v ≡ true → (x v || w v) ≡ false
      z_given v i = or_from (x v) (w v) (turned x z sets.x_z v i) (sets.z_w v i)

      none_in : (a : ℕ → Bool) (v : ℕ) → nothing v ≡ true → a v ≡ true
      none_in a v e = absurd (grind (arith, e))

      itself : (a : ℕ → Bool) (v : ℕ) → a v ≡ true → a v ≡ true
      itself a v e = e

      -- in a stratum the pair of outcomes is independent of the level
      pub pair_independent : with_second (λ u. first u && has_level r u) c * weight_where m in_stratum
          ≡ with_second (λ u. first u && in_stratum u) c * weight_where m (has_level r)
      pair_independent =
          ap₂ (λ i j. i * j)
          (where_same m (λ u. (first u && has_level r u) && second c u) (in_both g m rank ok ranked follows x s o s_in o_in
          (λ v. y v || (z v || (x v || w v))) r (at_level z r c)) (λ u world. sym (both_parts y z (itself y) (itself z) u)))
          (where_same m in_stratum (in_both g m rank ok ranked follows x s o s_in o_in (λ v. x v || w v) r (at_level z r c))
          (λ u world. sym (both_parts nothing nothing (none_in y) (none_in z) u
          ∙ ap₂ (λ i j. (i && agree m.vertices w (plain u) r) && j) (agree_none m.vertices (under s u) s) (agree_none m.vertices (under o u) c)
          ∙ and_true (agree m.vertices w (plain u) r) ∙ stratum_same u)))
          ∙ independent_pairs g m rank ok ranked follows x s o s_in o_in y z (λ v. x v || w v) sets.y_within sets.z_within given_below y_given z_given
          separated r (at_level z r c) b_in
          ∙ ap₂ (λ i j. i * j)
          (where_same m (in_both g m rank ok ranked follows x s o s_in o_in (λ v. y v || (x v || w v)) r (at_level z r c))
          (λ u. (first u && in_stratum u) && second c u) (λ u world. both_parts y nothing (itself y) (none_in z) u
          ∙ ap (λ i. (first u && i) && second c u) (stratum_same u)))
          (where_same m (in_both g m rank ok ranked follows x s o s_in o_in (λ v. z v || (x v || w v)) r (at_level z r c)) (has_level r)
          (λ u world. both_parts nothing z (none_in y) (itself z) u
          ∙ ap₂ (λ i j. (i && has_level r u) && j) (agree_none m.vertices (under s u) s) (agree_none m.vertices (under o u) c)
          ∙ and_true (has_level r u)))
        where
          and_true : (b : Bool) → (b && true) ≡ b
          and_true true = refl
          and_true false = refl

      -- and so is the outcome under the other value
      pub second_independent : with_second (has_level r) c * weight_where m in_stratum ≡ with_second in_stratum c * weight_where m (has_level r)
      second_independent =
          ap₂ (λ i j. i * j) (sym (under_other (λ v. y v || (z v || w v)) (λ u. has_level r u && second c u) (other_part y z (itself y) (itself z))))
          (sym (under_other w in_stratum (λ u. other_part nothing nothing (none_in y) (none_in z) u
          ∙ ap (λ j. agree m.vertices w (plain u) r && j) (agree_none m.vertices (under o u) c) ∙ and_true (agree m.vertices w (plain u) r) ∙ stratum_same u)))
          ∙ rule_1 g m rank ok ranked follows (at_level z r c) b_in x y z w sets.x_within sets.y_within sets.z_within sets.w_within y_given z_given separated
          ∙ ap₂ (λ i j. i * j) (under_other (λ v. y v || w v) (λ u. in_stratum u && second c u) (λ u. other_part y nothing (itself y) (none_in z) u
          ∙ ap (λ i. i && second c u) (stratum_same u)))
          (under_other (λ v. z v || w v) (has_level r) (λ u. other_part nothing z (none_in y) (itself z) u
          ∙ ap (λ j. has_level r u && j) (agree_none m.vertices (under o u) c) ∙ and_true (has_level r u)))
        where
          and_true : (b : Bool) → (b && true) ≡ b
          and_true true = refl
          and_true false = refl

          under_other : (a : ℕ → Bool) (d : (ℕ → ℕ) → Bool) → ((u : ℕ → ℕ) → agree m.vertices a (under o u) (at_level z r c) ≡ d u)
              → weight_of m x a (at_level z r c) ≡ weight_where m d
          under_other a d h = ap (λ k. event_weight k a (at_level z r c)) (intervene_alike m x (at_level z r c) o b_x)
              ∙ where_same m (λ u. agree m.vertices a (under o u) (at_level z r c)) d (λ u world. h u)
