-- Bounds by an admissible set hold.
use Rattle.std.proofs.Common.{ℕ, zero, suc, ◌+◌, ◌-◌, ◌*◌, ◌≡◌, ◌<◌, ◌≤◌, ◌↔◌, Bool, true, false, cond, eqb, ◌||◌, ◌&&◌}
use Rattle.std.proofs.Common.{refl, sym, ap, ap₂, ◌∙◌, subst, IsTrue, arith}
use Rattle.std.proofs.Math.Nat.{eq_of_mul-eq-mul_left}
use Rattle.std.proofs.lemmas.Bool.{and_parts, and_from, or_left, or_right}
use mathlib.Core.Path.{fun_ext}
use Rattle.mixed_graph.specs.Vocabulary.{MixedGraph, IsMixedGraph}
use Rattle.m_separation.specs.Vocabulary.{IsSeparated}
use Rattle.fractions.specs.Vocabulary.{Fraction, over, IsEqual, mul}
use Rattle.fractions.proofs.FractionLaws.{equal_refl}
use Rattle.finite_models.specs.Vocabulary.{sum_over, set_at, FiniteModel, Fits, IsAssignment, event_weight, intervene, weight_of, probability, total}
use Rattle.finite_models.proofs.Bools.{either, not_both}
use Rattle.finite_models.proofs.Following.{follows_of}
use Rattle.finite_models.proofs.Ranks.{with_rank}
use Rattle.finite_models.proofs.SumLaws.{set_at-other}
use Rattle.finite_models.proofs.Tested.{Test, tested, stable}
use Rattle.finite_models.proofs.Weights.{weight-none, weight_of-none}
use Rattle.prob_expr.specs.Vocabulary.{AreProportional, Weights, weights_of, add_over}
use Rattle.prob_expr.proofs.Boxes.{assignment_set, IsStable, add_over_whole}
use Rattle.adjustment.specs.Vocabulary.{IsBetween}
use Rattle.adjustment.proofs.Causal.{below_from, between_first}
use Rattle.adjustment.proofs.FirstEdges.{cut_arrows, firsts}
use Rattle.adjustment.proofs.Held.{hold_arrows, term_is, sum_is_effect}
use Rattle.adjustment.proofs.Separating.{clear_of_firsts, separated_from}
use Rattle.adjustment.proofs.Walks.{IsClear}
use Rattle.hidden_models.proofs.Totals.{total_positive}
use Rattle.natural_bounds.specs.declared.ends.End.{End}
use Rattle.natural_bounds.specs.declared.ends.End.TheVariants.{AtLeast, AtMost}
use Rattle.natural_bounds.specs.Vocabulary.{nothing, IsAtMost, trivial, Asked, fixed, joint, treated, share, stratum, condition}
use Rattle.natural_bounds.specs.Orders.{Bounds}
use Rattle.natural_bounds.proofs.Summed.{sum_over_sizes, positive_left}
use Rattle.natural_bounds.proofs.Natural.{wider}
use Rattle.natural_bounds.proofs.Orders.{positive-times, trivial_bottom, bounds_equal, add_over_bounds}
use Rattle.natural_bounds.proofs.Strata.{Holds, term_lower, term_upper}
use Rattle.adjusted_bounds.specs.Adjusted.{IsAdjusted, adjusted_at, adjusted_bound, AdjustedBoundsHold}
use Rattle.adjusted_bounds.proofs.Held.{kept}

exact_numbers : (j w x part J X all t : ℕ) → 1 ≤ t → j * w ≡ x * part → j * all ≡ J * t → x * all ≡ X * t → J * w ≡ part * X
exact_numbers j w x part J X all t pos h e f = eq_of_mul-eq-mul_left t pos (J * w) (part * X)
    ((let r : t * (J * w) ≡ (J * t) * w = omega arith in r) ∙ ap (λ k. k * w) (sym e) ∙ (let r : (j * all) * w ≡ (j * w) * all = omega arith in r)
    ∙ ap (λ k. k * all) h ∙ (let r : (x * part) * all ≡ part * (x * all) = omega arith in r) ∙ ap (λ k. part * k) f
    ∙ (let r : part * (X * t) ≡ t * (part * X) = omega arith in r))

adjusted_bottom : (end : End) (n : Weights) (q : Asked) (s : ℕ → ℕ) → 1 ≤ (adjusted_at end n q s).bottom
adjusted_bottom end n q s = go (eqb (treated n q s) 0) refl
  where
    go : (c : Bool) → eqb (treated n q s) 0 ≡ c → 1 ≤ (cond c (trivial end) (over (joint n q s) (treated n q s))).bottom
    go true e = trivial_bottom end
    go false e = let d : treated n q s ≡ 0 → ⊥ = λ z. absurd (grind (arith, z, e)) in omega arith

module _ (g : MixedGraph) (ok : IsMixedGraph g) (used : ℕ → Bool) (q : Asked) (asked : IsAdjusted g used q) (m : FiniteModel) (fit : Fits g m) (n : Weights)
    (all : ℕ) (match : AreProportional used n all (weights_of m) (total m)) (s : ℕ → ℕ) (within : IsAssignment m.vertices m.size s)
    (B : ℕ → Bool) (is_between : (v : ℕ) → IsTrue (B v) ↔ IsBetween g q.x q.y v) where
  some : 1 ≤ total m
  some = total_positive g m fit

  -- the weight of y and the set with the arrows held
  abbrev part : (ℕ → ℕ) → ℕ
  part c = event_weight (hold_arrows m (firsts q.x B) s) (λ v. q.y v || q.u v) c

  -- an assignment with the values of s outside the set
  abbrev Alike : (ℕ → ℕ) → Type 0
  Alike t = IsAssignment m.vertices m.size t × ((v : ℕ) → q.u v ≡ false → t v ≡ s v)

  tails : (u v : ℕ) → firsts q.x B u v ≡ true → q.x u ≡ true
  tails u v e = (and_parts (q.x u) (B v) e).0

  clear : IsClear g (firsts q.x B) q.u
  clear = clear_of_firsts g ok q.x q.y asked.sets.x_within asked.sets.x_y B is_between q.u asked.admissible.clear

  separated : IsSeparated (cut_arrows g (firsts q.x B)) q.x q.y q.u
  separated = separated_from g ok q.x q.y asked.sets.x_within asked.sets.x_y B is_between q.u asked.sets.x_w asked.admissible

  -- ---- sets
  in_fixed : (v : ℕ) → fixed q v ≡ q.u v
  in_fixed v = go (q.c v) (asked.no_condition v)
    where
      go : (c : Bool) → c ≡ false → (c || q.u v) ≡ q.u v
      go true e = absurd (grind (arith, e))
      go false e = refl

  in_level : (v : ℕ) → (q.z v || fixed q v) ≡ q.u v
  in_level v = go (q.z v) (asked.no_instrument v)
    where
      go : (c : Bool) → c ≡ false → (c || fixed q v) ≡ q.u v
      go true e = absurd (grind (arith, e))
      go false e = in_fixed v

  as_event : (a b : ℕ → Bool) (t : ℕ → ℕ) → ((v : ℕ) → a v ≡ b v) → weight_of m nothing a t ≡ event_weight m b t
  as_event a b t same = weight_of-none m nothing a t (λ v. refl) ∙ ap (λ k. event_weight m k t) (fun_ext same)

  counted : (a : ℕ → Bool) → ((v : ℕ) → a v ≡ true → (q.x v || (q.y v || q.u v)) ≡ true) → (t : ℕ → ℕ) → IsAssignment m.vertices m.size t
      → weight_of m nothing a t * all ≡ n.weight nothing a t * total m
  counted a inside t w = match.weights a (λ v i. asked.covered v (inside v i)) t w

  u_inside : (v : ℕ) → q.u v ≡ true → (q.x v || (q.y v || q.u v)) ≡ true
  u_inside v i = or_right (q.x v) (q.y v || q.u v) (or_right (q.y v) (q.u v) i)

  counted_stratum : (t : ℕ → ℕ) → IsAssignment m.vertices m.size t → weight_of m nothing (fixed q) t * all ≡ stratum n q t * total m
  counted_stratum t w = counted (fixed q) (λ v i. u_inside v (sym (in_fixed v) ∙ i)) t w

  counted_joint : (t : ℕ → ℕ) → IsAssignment m.vertices m.size t
      → weight_of m nothing (λ v. q.x v || (q.y v || (q.z v || fixed q v))) t * all ≡ joint n q t * total m
  counted_joint t w = counted (λ v. q.x v || (q.y v || (q.z v || fixed q v)))
      (λ v i. subst (λ b. (q.x v || (q.y v || b)) ≡ true) (in_level v) i) t w

  counted_treated : (t : ℕ → ℕ) → IsAssignment m.vertices m.size t
      → weight_of m nothing (λ v. q.x v || (q.z v || fixed q v)) t * all ≡ treated n q t * total m
  counted_treated t w = counted (λ v. q.x v || (q.z v || fixed q v))
      (λ v i. either (q.x v) (q.u v) ((q.x v || (q.y v || q.u v)) ≡ true) (subst (λ b. (q.x v || b) ≡ true) (in_level v) i)
      (λ k. or_left (q.x v) (q.y v || q.u v) k) (u_inside v)) t w

  whole : (t : ℕ → ℕ) → weight_of m nothing q.c t ≡ total m
  whole t = weight_of-none m nothing q.c t (λ v. refl) ∙ weight-none m q.c t asked.no_condition

  counted_condition : (t : ℕ → ℕ) → IsAssignment m.vertices m.size t → total m * all ≡ condition n q t * total m
  counted_condition t w = ap (λ k. k * all) (sym (whole t))
      ∙ counted q.c (λ v i. absurd (not_both (q.c v) i (asked.no_condition v))) t w

  condition_some : (t : ℕ → ℕ) → IsAssignment m.vertices m.size t → 1 ≤ condition n q t
  condition_some t w = positive_left (condition n q t) (total m) (total m) all (sym (counted_condition t w)) some match.some

  -- ---- a stratum
  adjusts : (t : ℕ → ℕ) → ((v : ℕ) → q.u v ≡ false → t v ≡ s v)
      → event_weight m (λ v. q.x v || (q.y v || q.u v)) t * event_weight m q.u t ≡ event_weight m (λ v. q.x v || q.u v) t * part t
  adjusts t same = with_rank g ok (event_weight m (λ v. q.x v || (q.y v || q.u v)) t * event_weight m q.u t)
      (event_weight m (λ v. q.x v || q.u v) t * part t)
      (λ rank ranked. term_is g m rank ok ranked (follows_of g m fit) s within (firsts q.x B) q.x q.y q.u tails clear
      (λ u v xu a out i. and_from (q.x u) (B v) xu ((is_between v).1 (between_first g ok q.x q.y u v xu a out i)))
      asked.sets.x_y asked.sets.x_w asked.sets.y_w asked.sets.x_within asked.sets.y_within asked.sets.w_within separated t same)

  summed : sum_over q.u m.size m.vertices part s ≡ weight_of m q.x q.y s
  summed = with_rank g ok (sum_over q.u m.size m.vertices part s) (weight_of m q.x q.y s)
      (λ rank ranked. sum_is_effect g m rank ok ranked (follows_of g m fit) s within (firsts q.x B) q.x q.y q.u tails clear
      (λ u v xu a out i. and_from (q.x u) (B v) xu ((is_between v).1 (between_first g ok q.x q.y u v xu a out i)))
      asked.sets.x_y asked.sets.x_w asked.sets.y_w)

  -- no more than the stratum has
  capped : (t : ℕ → ℕ) → part t ≤ weight_of m nothing (fixed q) t
  capped t =
      let held = hold_arrows m (firsts q.x B) s in
      let less = wider held nothing (λ v. q.y v || q.u v) q.u t (λ v i. or_right (q.y v) (q.u v) i) in
      let one = weight_of-none held nothing (λ v. q.y v || q.u v) t (λ v. refl) in
      let two = weight_of-none held nothing q.u t (λ v. refl) in
      let same = with_rank g ok (event_weight held q.u t) (event_weight m q.u t)
      (λ rank ranked. kept g m rank ok ranked (follows_of g m fit) s within (firsts q.x B) q.u clear t) in
      let here = as_event (fixed q) q.u t in_fixed in
      omega (arith, less, one, two, same, here)

  holds : (end : End) (t : ℕ → ℕ) → Alike t → Holds end (adjusted_at end n q t) (weight_of m nothing (fixed q) t) (part t)
  holds end t p = go (eqb (treated n q t) 0)
    where
      exact : joint n q t * weight_of m nothing (fixed q) t ≡ part t * treated n q t
      exact = exact_numbers (weight_of m nothing (λ v. q.x v || (q.y v || (q.z v || fixed q v))) t) (weight_of m nothing (fixed q) t)
          (weight_of m nothing (λ v. q.x v || (q.z v || fixed q v)) t) (part t) (joint n q t) (treated n q t) all (total m) some
          (ap₂ (λ a b. a * b)
          (as_event (λ v. q.x v || (q.y v || (q.z v || fixed q v))) (λ v. q.x v || (q.y v || q.u v)) t (λ v. ap (λ b. q.x v || (q.y v || b)) (in_level v)))
          (as_event (fixed q) q.u t in_fixed)
          ∙ adjusts t p.1
          ∙ ap (λ k. k * part t) (sym (as_event (λ v. q.x v || (q.z v || fixed q v)) (λ v. q.x v || q.u v) t (λ v. ap (λ b. q.x v || b) (in_level v)))))
          (counted_joint t p.0) (counted_treated t p.0)

      said : (e : End) → Holds e (over (joint n q t) (treated n q t)) (weight_of m nothing (fixed q) t) (part t)
      said AtLeast = omega (arith, exact)
      said AtMost = omega (arith, exact)

      nothing_said : (e : End) → Holds e (trivial e) (weight_of m nothing (fixed q) t) (part t)
      nothing_said AtLeast = omega arith
      nothing_said AtMost = omega (arith, capped t)

      go : (c : Bool) → Holds end (cond c (trivial end) (over (joint n q t) (treated n q t))) (weight_of m nothing (fixed q) t) (part t)
      go true = nothing_said end
      go false = said end

  term : (end : End) (t : ℕ → ℕ) → Alike t → Bounds end (mul (share n q t) (adjusted_at end n q t)) (over (part t) (total m))
  term AtLeast t p = record {
    left_bottom = positive-times (condition n q t) (adjusted_at AtLeast n q t).bottom (condition_some t p.0) (adjusted_bottom AtLeast n q t);
    right_bottom = some;
    products = term_lower (stratum n q t) (condition n q t) (adjusted_at AtLeast n q t).top (adjusted_at AtLeast n q t).bottom
        (weight_of m nothing (fixed q) t) (total m) (part t) all (total m) some (counted_stratum t p.0) (counted_condition t p.0) (holds AtLeast t p);
  }
  term AtMost t p = record {
    left_bottom = some;
    right_bottom = positive-times (condition n q t) (adjusted_at AtMost n q t).bottom (condition_some t p.0) (adjusted_bottom AtMost n q t);
    products = term_upper (stratum n q t) (condition n q t) (adjusted_at AtMost n q t).top (adjusted_at AtMost n q t).bottom
        (weight_of m nothing (fixed q) t) (total m) (part t) all (total m) some (counted_stratum t p.0) (counted_condition t p.0) (holds AtMost t p);
  }

  -- ---- the sum
  same_size : (i : ℕ) → i < m.vertices → q.u i ≡ true → n.size i ≡ m.size i
  same_size i lt e = match.sizes i lt (asked.covered i (u_inside i e))

  stays : IsStable n.vertices q.u n.size Alike
  stays c i k lt i_u kl p = (
    assignment_set m.vertices m.size c i k (subst (λ b. k < b) (same_size i (subst (λ b. i < b) match.vertices lt) i_u) kl) p.0,
    λ v vu. set_at-other c i k v (λ same. not_both (q.u v) (subst (λ j. q.u j ≡ true) (sym same) i_u) vu) ∙ p.1 v vu,
  )

  start : Alike s
  start = (within, λ v e. refl)

  top : sum_over q.u n.size n.vertices part s ≡ weight_of m q.x (λ v. q.y v || q.c v) s
  top = ap (λ k. sum_over q.u n.size k part s) match.vertices ∙ sum_over_sizes q.u n.size m.size m.vertices part s same_size ∙ summed
      ∙ ap (λ a. weight_of m q.x a s) (fun_ext (λ v. plain v (q.y v) (q.c v) (asked.no_condition v)))
    where
      plain : (v : ℕ) (a c : Bool) → c ≡ false → a ≡ (a || c)
      plain v true c e = refl
      plain v false c e = sym e

  bottom : weight_of m q.x q.c s ≡ total m
  bottom = weight-none (intervene m q.x s) q.c s asked.no_condition

  effect_is : IsEqual (add_over q.u n.size n.vertices (λ t. over (part t) (total m)) s) (probability m q.x q.y q.c s)
  effect_is = subst (λ d. IsEqual (add_over q.u n.size n.vertices (λ t. over (part t) (total m)) s) (over (weight_of m q.x (λ v. q.y v || q.c v) s) d))
      (sym bottom)
      (subst (λ k. IsEqual (add_over q.u n.size n.vertices (λ t. over (part t) (total m)) s) (over k (total m))) top
      (add_over_whole q.u n.size Alike n.vertices (total m) (λ t. over (part t) (total m)) part s some stays start
      (λ t p. equal_refl (over (part t) (total m)) some)))

  pub effect_holds : (end : End) → Bounds end (adjusted_bound end n q s) (probability m q.x q.y q.c s)
  effect_holds end = bounds_equal end (adjusted_bound end n q s)
      (add_over q.u n.size n.vertices (λ t. over (part t) (total m)) s) (probability m q.x q.y q.c s)
      (add_over_bounds end q.u n.size Alike n.vertices (λ t. mul (share n q t) (adjusted_at end n q t)) (λ t. over (part t) (total m)) s stays start
      (λ t p. term end t p))
      effect_is

-- two numbers in order may be proved as if a property had a test
at_most_tested : (P : ℕ → Type 0) (n a b : ℕ) → (Test P n → a ≤ b) → a ≤ b
at_most_tested P n a b h = let same : a - b ≡ 0 = stable (a - b) 0 (λ differ. tested P n (λ t. differ (let le = h t in omega arith))) in omega arith

pub adjusted_bounds_hold : AdjustedBoundsHold
adjusted_bounds_hold end g ok used q asked n all s m fit match within = go end (λ e t. with_test t e)
  where
    with_test : Test (IsBetween g q.x q.y) g.vertices → (e : End) → Bounds e (adjusted_bound e n q s) (probability m q.x q.y q.c s)
    with_test t e = effect_holds g ok used q asked m fit n all match s within t.test
        (λ v. (t.sound v, λ b. t.complete v (below_from g ok q.x q.y asked.sets.x_within v b).vertex b)) e

    positive : (a : ℕ) → (Test (IsBetween g q.x q.y) g.vertices → 1 ≤ a) → 1 ≤ a
    positive a h = at_most_tested (IsBetween g q.x q.y) g.vertices 1 a h

    go : (e : End) → ((e : End) → Test (IsBetween g q.x q.y) g.vertices → Bounds e (adjusted_bound e n q s) (probability m q.x q.y q.c s))
        → Bounds e (adjusted_bound e n q s) (probability m q.x q.y q.c s)
    go AtLeast h = record {
      left_bottom = positive (adjusted_bound AtLeast n q s).bottom (λ t. (h AtLeast t).left_bottom);
      right_bottom = positive (probability m q.x q.y q.c s).bottom (λ t. (h AtLeast t).right_bottom);
      products = at_most_tested (IsBetween g q.x q.y) g.vertices ((adjusted_bound AtLeast n q s).top * (probability m q.x q.y q.c s).bottom)
          ((probability m q.x q.y q.c s).top * (adjusted_bound AtLeast n q s).bottom) (λ t. (h AtLeast t).products);
    }
    go AtMost h = record {
      left_bottom = positive (probability m q.x q.y q.c s).bottom (λ t. (h AtMost t).left_bottom);
      right_bottom = positive (adjusted_bound AtMost n q s).bottom (λ t. (h AtMost t).right_bottom);
      products = at_most_tested (IsBetween g q.x q.y) g.vertices ((probability m q.x q.y q.c s).top * (adjusted_bound AtMost n q s).bottom)
          ((adjusted_bound AtMost n q s).top * (probability m q.x q.y q.c s).bottom) (λ t. (h AtMost t).products);
    }
