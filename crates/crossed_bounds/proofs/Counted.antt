-- What two levels say, over counts.
use Rattle.std.proofs.Common.{ℕ, ◌+◌, ◌-◌, ◌*◌, ◌≡◌, ◌<◌, ◌≤◌, Bool, true, false, cond, not, ◌&&◌, ◌||◌, refl, sym, ap, ap₂, ◌∙◌, subst, inl, inr, arith, eqb-true}
use Rattle.std.proofs.Math.Dec.{leb}
use Rattle.std.proofs.lemmas.Bool.{cases_lt, leb-true, leb-false, or_left, or_right}
use Rattle.mixed_graph.specs.Vocabulary.{MixedGraph, IsMixedGraph}
use Rattle.finite_models.specs.Vocabulary.{sum_over, FiniteModel, Fits, IsAssignment, agree, weight_of, total}
use Rattle.finite_models.proofs.Bools.{not_both}
use Rattle.finite_models.proofs.Following.{follows_of}
use Rattle.finite_models.proofs.Ranks.{with_rank}
use Rattle.finite_models.proofs.Solutions.{IsRanked, agree_gives, agree_from}
use Rattle.finite_models.proofs.SumLaws.{over-congr, over-scale, set_at-other, eqb-refl}
use Rattle.prob_expr.specs.Vocabulary.{AreProportional, Weights, weights_of}
use Rattle.prob_expr.proofs.Boxes.{assignment_set, IsStable, sum_over_equal}
use Rattle.natural_bounds.specs.declared.ends.End.{End}
use Rattle.natural_bounds.specs.declared.ends.End.TheVariants.{AtLeast, AtMost}
use Rattle.natural_bounds.specs.Vocabulary.{nothing, Asked, fixed, joint, level, IsAskedOf}
use Rattle.natural_bounds.proofs.Summed.{sum_over_sizes}
use Rattle.natural_bounds.proofs.Orders.{times-le, positive-times, cancelled}
use Rattle.natural_bounds.proofs.Strata.{Holds, some, here, counted}
use Rattle.crossed_bounds.specs.Crossed.{IsTwoValued, other, at_level, untaken, chosen, shown, two_levels}
use Rattle.crossed_bounds.proofs.Pairs.{weight_where}
use Rattle.crossed_bounds.proofs.Levels.{shows, first, has_level, in_stratum, with_second, level_weight, joint_weight, other_weight, done_weight}
use Rattle.crossed_bounds.proofs.Outcomes.{upper_levels, lower_levels}

-- ---- numbers
pub chosen_times : (end : End) (p q k : ℕ) → chosen end p q * k ≡ chosen end (p * k) (q * k)
chosen_times AtLeast p q k = go (leb p q) (leb (p * k) (q * k)) refl refl
  where
    go : (a b : Bool) → leb p q ≡ a → leb (p * k) (q * k) ≡ b → cond a q p * k ≡ cond b (q * k) (p * k)
    go true true e f = refl
    go false false e f = refl
    go true false e f = let le = times-le p q k (leb-true p q e) in let lt = leb-false (p * k) (q * k) f in absurd (omega arith)
    go false true e f = let less = leb-false p q e in let le = times-le q p k (omega (arith, less)) in let ge = leb-true (p * k) (q * k) f in omega arith
chosen_times AtMost p q k = go (leb p q) (leb (p * k) (q * k)) refl refl
  where
    go : (a b : Bool) → leb p q ≡ a → leb (p * k) (q * k) ≡ b → cond a p q * k ≡ cond b (p * k) (q * k)
    go true true e f = refl
    go false false e f = refl
    go true false e f = let le = times-le p q k (leb-true p q e) in let lt = leb-false (p * k) (q * k) f in absurd (omega arith)
    go false true e f = let less = leb-false p q e in let le = times-le q p k (omega (arith, less)) in let ge = leb-true (p * k) (q * k) f in omega arith

-- a product of two weights over the counts
two_counts : (a b A B all t : ℕ) → a * all ≡ A * t → b * all ≡ B * t → (a * b) * (all * all) ≡ (A * B) * (t * t)
two_counts a b A B all t e f =
    (let r : (a * b) * (all * all) ≡ (a * all) * (b * all) = omega arith in r) ∙ ap₂ (λ i j. i * j) e f
    ∙ (let r : (A * t) * (B * t) ≡ (A * B) * (t * t) = omega arith in r)

-- (j * b + k * a) + s over the counts
three_counts : (a b j k s A B J K S all t : ℕ) → a * all ≡ A * t → b * all ≡ B * t → j * all ≡ J * t → k * all ≡ K * t → s * (all * all) ≡ S * (t * t)
    → ((j * b + k * a) + s) * (all * all) ≡ ((J * B + K * A) + S) * (t * t)
three_counts a b j k s A B J K S all t e f h l d =
    (let r : ((j * b + k * a) + s) * (all * all) ≡ ((j * b) * (all * all) + (k * a) * (all * all)) + s * (all * all) = omega arith in r)
    ∙ ap₂ (λ u v. u + v) (ap₂ (λ u v. u + v) (two_counts j b J B all t h f) (two_counts k a K A all t l e)) d
    ∙ (let r : ((J * B) * (t * t) + (K * A) * (t * t)) + S * (t * t) ≡ ((J * B + K * A) + S) * (t * t) = omega arith in r)

upper_counts : (x w p r P R all t : ℕ) → 1 ≤ t → x * p ≤ w * r → p * (all * all) ≡ P * (t * t) → r * (all * all) ≡ R * (t * t) → x * P ≤ R * w
upper_counts x w p r P R all t pos h e f =
    cancelled (x * P) (R * w) (t * t) (positive-times t t pos pos)
    (let k = times-le (x * p) (w * r) (all * all) h in
    let left : (x * p) * (all * all) ≡ (x * P) * (t * t) = (let q : (x * p) * (all * all) ≡ x * (p * (all * all)) = omega arith in q) ∙ ap (λ n. x * n) e
    ∙ (let q : x * (P * (t * t)) ≡ (x * P) * (t * t) = omega arith in q) in
    let right : (w * r) * (all * all) ≡ (R * w) * (t * t) = (let q : (w * r) * (all * all) ≡ w * (r * (all * all)) = omega arith in q) ∙ ap (λ n. w * n) f
    ∙ (let q : w * (R * (t * t)) ≡ (R * w) * (t * t) = omega arith in q) in
    omega (arith, k, left, right))

lower_counts : (x w p r P R all t : ℕ) → 1 ≤ t → w * r ≤ (x + w) * p → p * (all * all) ≡ P * (t * t) → r * (all * all) ≡ R * (t * t) → (R - P) * w ≤ x * P
lower_counts x w p r P R all t pos h e f =
    let whole : R * w ≤ (x + w) * P = cancelled (R * w) ((x + w) * P) (t * t) (positive-times t t pos pos)
    (let k = times-le (w * r) ((x + w) * p) (all * all) h in
    let left : (w * r) * (all * all) ≡ (R * w) * (t * t) = (let q : (w * r) * (all * all) ≡ w * (r * (all * all)) = omega arith in q) ∙ ap (λ n. w * n) f
    ∙ (let q : w * (R * (t * t)) ≡ (R * w) * (t * t) = omega arith in q) in
    let right : ((x + w) * p) * (all * all) ≡ ((x + w) * P) * (t * t) = (let q : ((x + w) * p) * (all * all) ≡ (x + w) * (p * (all * all)) = omega arith in q)
    ∙ ap (λ n. (x + w) * n) e ∙ (let q : (x + w) * (P * (t * t)) ≡ ((x + w) * P) * (t * t) = omega arith in q) in
    omega (arith, k, left, right)) in
    go whole
  where
    go : R * w ≤ (x + w) * P → (R - P) * w ≤ x * P
    go whole = elim (cases_lt R P) [
      | inl l ↦ let none : R - P ≡ 0 = omega (arith, l) in subst (λ n. n * w ≤ x * P) (sym none) (omega arith)
      | inr ge ↦ let apart : R ≡ (R - P) + P = omega (arith, ge) in
          let q : R * w ≡ (R - P) * w + P * w = ap (λ n. n * w) apart ∙ (let r : ((R - P) + P) * w ≡ (R - P) * w + P * w = omega arith in r) in
          let s : (x + w) * P ≡ x * P + P * w = omega arith in
          omega (arith, whole, q, s)
    ]

-- numbers in order may be shown so as if the graph had a rank
ranked_le : (g : MixedGraph) → IsMixedGraph g → (a b : ℕ) → ((rank : ℕ → ℕ) → IsRanked g rank → a ≤ b) → a ≤ b
ranked_le g ok a b h = let same : a - b ≡ 0 = with_rank g ok (a - b) 0 (λ rank ranked. let le = h rank ranked in omega arith) in omega arith

same_upper : (d a b f j k s d' a' b' f' j' k' s' : ℕ) → d ≡ d' → a ≡ a' → b ≡ b' → f ≡ f' → j ≡ j' → k ≡ k' → s ≡ s'
    → d' * (a' * b') ≤ f' * ((j' * b' + k' * a') + s') → d * (a * b) ≤ f * ((j * b + k * a) + s)
same_upper d a b f j k s d' a' b' f' j' k' s' e₁ e₂ e₃ e₄ e₅ e₆ e₇ h = rw (e₁, e₂, e₃, e₄, e₅, e₆, e₇) h

same_lower : (d a b f j k s d' a' b' f' j' k' s' : ℕ) → d ≡ d' → a ≡ a' → b ≡ b' → f ≡ f' → j ≡ j' → k ≡ k' → s ≡ s'
    → f' * ((j' * b' + k' * a') + s') ≤ (d' + f') * (a' * b') → f * ((j * b + k * a) + s) ≤ (d + f) * (a * b)
same_lower d a b f j k s d' a' b' f' j' k' s' e₁ e₂ e₃ e₄ e₅ e₆ e₇ h = rw (e₁, e₂, e₃, e₄, e₅, e₆, e₇) h

module _ (g : MixedGraph) (ok : IsMixedGraph g) (used : ℕ → Bool) (q : Asked) (asked : IsAskedOf g used q) (m : FiniteModel) (fit : Fits g m) (n : Weights)
    (all : ℕ) (match : AreProportional used n all (weights_of m) (total m)) (b : IsTwoValued n q.x) where
  abbrev every : ℕ → Bool
  every v = q.x v || (q.y v || (q.z v || fixed q v))

  abbrev joint_in : (ℕ → ℕ) → ℕ
  joint_in s = weight_of m nothing every s

  abbrev level_in : (ℕ → ℕ) → ℕ
  level_in s = weight_of m nothing (λ v. q.z v || fixed q v) s

  stratum_in : (ℕ → ℕ) → ℕ
  stratum_in = here g ok used q asked m fit n all match

  -- ---- the other value
  is_x : (v : ℕ) → q.x v ≡ true → v ≡ b.vertex
  is_x v e = eqb-true v b.vertex (sym (b.one v) ∙ e)

  vertex_in : q.x b.vertex ≡ true
  vertex_in = b.one b.vertex ∙ eqb-refl b.vertex

  vertex_below : b.vertex < m.vertices
  vertex_below = subst (λ k. b.vertex < k) (sym fit.vertices) (asked.instrument.sets.x_within b.vertex vertex_in)

  two_values : (v : ℕ) → q.x v ≡ true → m.size v ≡ 2
  two_values v e = subst (λ k. m.size k ≡ 2) (sym (is_x v e))
      (sym (match.sizes b.vertex vertex_below (asked.covered b.vertex (or_left (q.x b.vertex) (q.y b.vertex || (q.z b.vertex || fixed q b.vertex)) vertex_in))) ∙ b.two)

  module _ (r : ℕ → ℕ) (r_in : IsAssignment m.vertices m.size r) where
    other_on : (v : ℕ) → q.x v ≡ true → other q.x r v ≡ 1 - r v
    other_on v e = rw e refl

    other_off : (v : ℕ) → q.x v ≡ false → other q.x r v ≡ r v
    other_off v e = rw e refl

    other_in : IsAssignment m.vertices m.size (other q.x r)
    other_in v vl = at (q.x v) refl
      where
        at : (c : Bool) → q.x v ≡ c → cond c (1 - r v) (r v) < m.size v
        at true e = let k = two_values v e in omega (arith, k)
        at false e = r_in v vl

    differ : (u : ℕ → ℕ) → agree m.vertices q.x u r ≡ true → agree m.vertices q.x u (other q.x r) ≡ true → ⊥
    differ u h k =
        let one = agree_gives m.vertices q.x u r h b.vertex vertex_below vertex_in in
        let more = agree_gives m.vertices q.x u (other q.x r) k b.vertex vertex_below vertex_in ∙ other_on b.vertex vertex_in in
        let low = r_in b.vertex vertex_below in let size = two_values b.vertex vertex_in in
        absurd (omega (arith, one, more, low, size))

    two : (u : ℕ → ℕ) → IsAssignment m.vertices m.size u → agree m.vertices q.x u r ≡ false → agree m.vertices q.x u (other q.x r) ≡ true
    two u u_in out = agree_from m.vertices q.x u (other q.x r) (λ v vl i. (let low = u_in v vl in let below = r_in v vl in let size = two_values v i in
        let d : u v ≡ r v → ⊥ = λ e. not_both (agree m.vertices q.x u r) (agree_from m.vertices q.x u r
        (λ w wl j. subst (λ k. u k ≡ r k) (is_x v i ∙ sym (is_x w j)) e)) out in
        let p : u v ≡ 1 - r v = omega (arith, low, below, size, d) in p) ∙ sym (other_on v i))

  -- ---- two levels, in the model
  module _ (r : ℕ → ℕ) (r_in : IsAssignment m.vertices m.size r) (t : ℕ → ℕ) (t_in : IsAssignment m.vertices m.size t)
      (t_same : (v : ℕ) → q.z v ≡ false → t v ≡ r v) where
    -- an outcome: y alone differs
    abbrev Outcome : (ℕ → ℕ) → Type 0
    Outcome c = IsAssignment m.vertices m.size c × ((v : ℕ) → q.y v ≡ false → c v ≡ other q.x r v)

    outcomes : IsStable m.vertices q.y m.size Outcome
    outcomes c i k lt i_y kl p = (
      assignment_set m.vertices m.size c i k kl p.0,
      λ v vy. set_at-other c i k v (λ e. not_both (q.y v) (subst (λ j. q.y j ≡ true) (sym e) i_y) vy) ∙ p.1 v vy,
    )

    start : Outcome (other q.x r)
    start = (other_in r r_in, λ v e. refl)

    moved_in : (p c : ℕ → ℕ) → IsAssignment m.vertices m.size p → IsAssignment m.vertices m.size c → IsAssignment m.vertices m.size (at_level q.z p c)
    moved_in p c p_in c_in v vl = at (q.z v)
      where
        at : (k : Bool) → cond k (p v) (c v) < m.size v
        at true = p_in v vl
        at false = c_in v vl

    -- what the levels have with the other value of x
    abbrev untaken_in : (p k c : ℕ → ℕ) → ℕ
    untaken_in p k c = joint_in (at_level q.z p c) * level_in k

    abbrev chosen_in : End → (ℕ → ℕ) → ℕ
    chosen_in end c = chosen end (untaken_in r t c) (untaken_in t r c)

    module _ (rank : ℕ → ℕ) (ranked : IsRanked g rank) where
      abbrev show : (ℕ → ℕ) → Bool
      show = shows g m rank ok ranked (follows_of g m fit) q.x q.y q.z (fixed q) asked.instrument.sets asked.instrument.unmoved asked.instrument.separated
          r (other q.x r) r_in (other_in r r_in) (other_off r r_in) (differ r r_in) (two r r_in)

      abbrev at : (p u : ℕ → ℕ) → Bool
      at = has_level g m rank ok ranked (follows_of g m fit) q.x q.y q.z (fixed q) asked.instrument.sets asked.instrument.unmoved asked.instrument.separated
          r (other q.x r) r_in (other_in r r_in) (other_off r r_in) (differ r r_in) (two r r_in)

      abbrev one : (ℕ → ℕ) → Bool
      one = first g m rank ok ranked (follows_of g m fit) q.x q.y q.z (fixed q) asked.instrument.sets asked.instrument.unmoved asked.instrument.separated
          r (other q.x r) r_in (other_in r r_in) (other_off r r_in) (differ r r_in) (two r r_in)

      abbrev where_here : (ℕ → ℕ) → Bool
      where_here = in_stratum g m rank ok ranked (follows_of g m fit) q.x q.y q.z (fixed q) asked.instrument.sets asked.instrument.unmoved
          asked.instrument.separated r (other q.x r) r_in (other_in r r_in) (other_off r r_in) (differ r r_in) (two r r_in)

      abbrev along_with : ((ℕ → ℕ) → Bool) → (ℕ → ℕ) → ℕ
      along_with = with_second g m rank ok ranked (follows_of g m fit) q.x q.y q.z (fixed q) asked.instrument.sets asked.instrument.unmoved
          asked.instrument.separated r (other q.x r) r_in (other_in r r_in) (other_off r r_in) (differ r r_in) (two r r_in)

      level_is : (p : ℕ → ℕ) → IsAssignment m.vertices m.size p → ((v : ℕ) → q.z v ≡ false → p v ≡ r v) → level_in p ≡ weight_where m (at p)
      level_is p p_in p_same = level_weight g m rank ok ranked (follows_of g m fit) q.x q.y q.z (fixed q) asked.instrument.sets asked.instrument.unmoved
          asked.instrument.separated r (other q.x r) r_in (other_in r r_in) (other_off r r_in) (differ r r_in) (two r r_in) p p_in p_same

      joint_is : (p : ℕ → ℕ) → IsAssignment m.vertices m.size p → ((v : ℕ) → q.z v ≡ false → p v ≡ r v)
          → joint_in p ≡ weight_where m (λ u. show u && (one u && at p u))
      joint_is p p_in p_same = joint_weight g m rank ok ranked (follows_of g m fit) q.x q.y q.z (fixed q) asked.instrument.sets asked.instrument.unmoved
          asked.instrument.separated r (other q.x r) r_in (other_in r r_in) (other_off r r_in) (differ r r_in) (two r r_in) p p_in p_same

      other_is : (p : ℕ → ℕ) → IsAssignment m.vertices m.size p → ((v : ℕ) → q.z v ≡ false → p v ≡ r v) → (c : ℕ → ℕ) → Outcome c
          → joint_in (at_level q.z p c) ≡ along_with (λ u. not (show u) && at p u) c
      other_is p p_in p_same c o = other_weight g m rank ok ranked (follows_of g m fit) q.x q.y q.z (fixed q) asked.instrument.sets asked.instrument.unmoved
          asked.instrument.separated r (other q.x r) r_in (other_in r r_in) (other_off r r_in) (differ r r_in) (two r r_in) p p_in p_same c o.0 o.1

      done_is : weight_of m q.x (λ v. q.y v || fixed q v) r ≡ weight_where m (λ u. one u && where_here u)
      done_is = done_weight g m rank ok ranked (follows_of g m fit) q.x q.y q.z (fixed q) asked.instrument.sets asked.instrument.unmoved
          asked.instrument.separated r (other q.x r) r_in (other_in r r_in) (other_off r r_in) (differ r r_in) (two r r_in)

      sum_is : (end : End) → sum_over q.y m.size m.vertices (chosen_in end) (other q.x r) ≡ sum_over q.y m.size m.vertices
          (λ c. chosen end (along_with (λ u. not (show u) && at r u) c * weight_where m (at t)) (along_with (λ u. not (show u) && at t u) c
          * weight_where m (at r))) (other q.x r)
      sum_is end = sum_over_equal q.y m.size Outcome m.vertices m.size (chosen_in end)
          (λ c. chosen end (along_with (λ u. not (show u) && at r u) c * weight_where m (at t)) (along_with (λ u. not (show u) && at t u) c
          * weight_where m (at r))) (other q.x r) (λ i lt. refl) outcomes start
          (λ c o. ap₂ (λ i j. chosen end i j) (ap₂ (λ i j. i * j) (other_is r r_in (λ v e. refl) c o) (level_is t t_in t_same))
          (ap₂ (λ i j. i * j) (other_is t t_in t_same c o) (level_is r r_in (λ v e. refl))))

      upper_ranked : weight_of m q.x (λ v. q.y v || fixed q v) r * (level_in r * level_in t) ≤ weight_of m nothing (fixed q) r
          * ((joint_in r * level_in t + joint_in t * level_in r) + sum_over q.y m.size m.vertices (chosen_in AtMost) (other q.x r))
      upper_ranked = same_upper (weight_of m q.x (λ v. q.y v || fixed q v) r) (level_in r) (level_in t) (weight_of m nothing (fixed q) r) (joint_in r)
          (joint_in t) (sum_over q.y m.size m.vertices (chosen_in AtMost) (other q.x r)) _ _ _ _ _ _ _
          done_is (level_is r r_in (λ v e. refl)) (level_is t t_in t_same) refl (joint_is r r_in (λ v e. refl)) (joint_is t t_in t_same) (sum_is AtMost)
          (upper_levels g m rank ok ranked (follows_of g m fit) q.x q.y q.z (fixed q) asked.instrument.sets asked.instrument.unmoved
          asked.instrument.separated r (other q.x r) r_in (other_in r r_in) (other_off r r_in) (differ r r_in) (two r r_in)
          r r_in (λ v e. refl) t t_in t_same)

      lower_ranked : weight_of m nothing (fixed q) r
          * ((joint_in r * level_in t + joint_in t * level_in r) + sum_over q.y m.size m.vertices (chosen_in AtLeast) (other q.x r))
          ≤ (weight_of m q.x (λ v. q.y v || fixed q v) r + weight_of m nothing (fixed q) r) * (level_in r * level_in t)
      lower_ranked = same_lower (weight_of m q.x (λ v. q.y v || fixed q v) r) (level_in r) (level_in t) (weight_of m nothing (fixed q) r) (joint_in r)
          (joint_in t) (sum_over q.y m.size m.vertices (chosen_in AtLeast) (other q.x r)) _ _ _ _ _ _ _
          done_is (level_is r r_in (λ v e. refl)) (level_is t t_in t_same) refl (joint_is r r_in (λ v e. refl)) (joint_is t t_in t_same) (sum_is AtLeast)
          (lower_levels g m rank ok ranked (follows_of g m fit) q.x q.y q.z (fixed q) asked.instrument.sets asked.instrument.unmoved
          asked.instrument.separated r (other q.x r) r_in (other_in r r_in) (other_off r r_in) (differ r r_in) (two r r_in)
          r r_in (λ v e. refl) t t_in t_same)

    -- ---- over counts
    counted_level : (p : ℕ → ℕ) → IsAssignment m.vertices m.size p → level_in p * all ≡ level n q p * total m
    counted_level p p_in = counted g ok used q asked m fit n all match (λ v. q.z v || fixed q v)
        (λ v i. or_right (q.x v) (q.y v || (q.z v || fixed q v)) (or_right (q.y v) (q.z v || fixed q v) i)) p p_in

    counted_joint : (p : ℕ → ℕ) → IsAssignment m.vertices m.size p → joint_in p * all ≡ joint n q p * total m
    counted_joint p p_in = counted g ok used q asked m fit n all match every (λ v i. i) p p_in

    y_size : (i : ℕ) → i < m.vertices → q.y i ≡ true → m.size i ≡ n.size i
    y_size i lt e = sym (match.sizes i lt (asked.covered i (or_right (q.x i) (q.y i || (q.z i || fixed q i)) (or_left (q.y i) (q.z i || fixed q i) e))))

    counted_sum : (end : End) → sum_over q.y m.size m.vertices (chosen_in end) (other q.x r) * (all * all)
        ≡ sum_over q.y n.size n.vertices (λ c. chosen end (untaken n q r t c) (untaken n q t r c)) (other q.x r) * (total m * total m)
    counted_sum end =
        sym (scaled (chosen_in end) (all * all))
        ∙ sum_over_equal q.y m.size Outcome m.vertices m.size (λ c. chosen_in end c * (all * all))
        (λ c. chosen end (untaken n q r t c) (untaken n q t r c) * (total m * total m)) (other q.x r) (λ i lt. refl) outcomes start
        (λ c o. chosen_times end (untaken_in r t c) (untaken_in t r c) (all * all)
        ∙ ap₂ (λ i j. chosen end i j) (two_counts (joint_in (at_level q.z r c)) (level_in t) (joint n q (at_level q.z r c)) (level n q t) all (total m)
        (counted_joint (at_level q.z r c) (moved_in r c r_in o.0)) (counted_level t t_in))
        (two_counts (joint_in (at_level q.z t c)) (level_in r) (joint n q (at_level q.z t c)) (level n q r) all (total m)
        (counted_joint (at_level q.z t c) (moved_in t c t_in o.0)) (counted_level r r_in))
        ∙ sym (chosen_times end (untaken n q r t c) (untaken n q t r c) (total m * total m)))
        ∙ scaled (λ c. chosen end (untaken n q r t c) (untaken n q t r c)) (total m * total m)
        ∙ ap (λ k. k * (total m * total m)) (sum_over_sizes q.y m.size n.size m.vertices (λ c. chosen end (untaken n q r t c) (untaken n q t r c))
        (other q.x r) y_size
        ∙ ap (λ k. sum_over q.y n.size k (λ c. chosen end (untaken n q r t c) (untaken n q t r c)) (other q.x r)) (sym match.vertices))
      where
        scaled : (f : (ℕ → ℕ) → ℕ) (k : ℕ) → sum_over q.y m.size m.vertices (λ c. f c * k) (other q.x r) ≡ sum_over q.y m.size m.vertices f (other q.x r) * k
        scaled f k = over-congr q.y m.size m.vertices (λ c. f c * k) (λ c. k * f c) (other q.x r) (λ c. omega arith)
            ∙ over-scale q.y m.size m.vertices k f (other q.x r) ∙ omega arith

    counted_shown : (end : End) → ((joint_in r * level_in t + joint_in t * level_in r) + sum_over q.y m.size m.vertices (chosen_in end) (other q.x r))
        * (all * all) ≡ shown end n q r t * (total m * total m)
    counted_shown end = three_counts (level_in r) (level_in t) (joint_in r) (joint_in t) (sum_over q.y m.size m.vertices (chosen_in end) (other q.x r))
        (level n q r) (level n q t) (joint n q r) (joint n q t)
        (sum_over q.y n.size n.vertices (λ c. chosen end (untaken n q r t c) (untaken n q t r c)) (other q.x r)) all (total m)
        (counted_level r r_in) (counted_level t t_in) (counted_joint r r_in) (counted_joint t t_in) (counted_sum end)

    levels_count : (level_in r * level_in t) * (all * all) ≡ (level n q r * level n q t) * (total m * total m)
    levels_count = two_counts (level_in r) (level_in t) (level n q r) (level n q t) all (total m) (counted_level r r_in) (counted_level t t_in)

    -- what two levels say holds
    pub levels_hold : (end : End) → Holds end (two_levels end n q r t) (weight_of m nothing (fixed q) r) (weight_of m q.x (λ v. q.y v || fixed q v) r)
    levels_hold AtLeast =
        lower_counts (weight_of m q.x (λ v. q.y v || fixed q v) r) (weight_of m nothing (fixed q) r) (level_in r * level_in t)
        ((joint_in r * level_in t + joint_in t * level_in r) + sum_over q.y m.size m.vertices (chosen_in AtLeast) (other q.x r))
        (level n q r * level n q t) (shown AtLeast n q r t) all (total m) (some g ok used q asked m fit n all match)
        (ranked_le g ok (weight_of m nothing (fixed q) r
        * ((joint_in r * level_in t + joint_in t * level_in r) + sum_over q.y m.size m.vertices (chosen_in AtLeast) (other q.x r)))
        ((weight_of m q.x (λ v. q.y v || fixed q v) r + weight_of m nothing (fixed q) r) * (level_in r * level_in t)) lower_ranked)
        levels_count (counted_shown AtLeast)
    levels_hold AtMost =
        upper_counts (weight_of m q.x (λ v. q.y v || fixed q v) r) (weight_of m nothing (fixed q) r) (level_in r * level_in t)
        ((joint_in r * level_in t + joint_in t * level_in r) + sum_over q.y m.size m.vertices (chosen_in AtMost) (other q.x r))
        (level n q r * level n q t) (shown AtMost n q r t) all (total m) (some g ok used q asked m fit n all match)
        (ranked_le g ok (weight_of m q.x (λ v. q.y v || fixed q v) r * (level_in r * level_in t))
        (weight_of m nothing (fixed q) r
        * ((joint_in r * level_in t + joint_in t * level_in r) + sum_over q.y m.size m.vertices (chosen_in AtMost) (other q.x r))) upper_ranked)
        levels_count (counted_shown AtMost)
