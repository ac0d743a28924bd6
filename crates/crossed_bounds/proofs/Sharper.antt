-- A stratum's sharper bound in every model that has the weights.
use Rattle.std.proofs.Common.{ℕ, zero, suc, ◌*◌, ◌≡◌, ◌≤◌, Bool, true, false, cond, eqb, ◌||◌, refl, sym, ap, ap₂, ◌∙◌, subst, inl, inr, arith}
use Rattle.std.proofs.lemmas.Bool.{or_right}
use Rattle.mixed_graph.specs.Vocabulary.{MixedGraph, IsMixedGraph}
use Rattle.finite_models.specs.Vocabulary.{FiniteModel, Fits, IsAssignment, weight_of, probability, total}
use Rattle.finite_models.proofs.Bools.{not_both}
use Rattle.prob_expr.specs.Vocabulary.{AreProportional, Weights, weights_of}
use Rattle.natural_bounds.specs.declared.ends.End.{End}
use Rattle.natural_bounds.specs.declared.ends.End.TheVariants.{AtLeast, AtMost}
use Rattle.natural_bounds.specs.Vocabulary.{nothing, trivial, tighter, tightest_over, IsIn, Asked, fixed, level, said, bound_at, stratum_bound, IsAskedOf}
use Rattle.natural_bounds.specs.Orders.{Bounds}
use Rattle.natural_bounds.proofs.Summed.{positive_left}
use Rattle.natural_bounds.proofs.Natural.{unmoved_weight, wider}
use Rattle.natural_bounds.proofs.Orders.{positive-times, bounds_trans, trivial_bottom, tighter_one, tighter_first, tighter_second, tightest_bottom}
use Rattle.natural_bounds.proofs.Orders.{tightest_is_tightest, tightest_is_one}
use Rattle.natural_bounds.proofs.Strata.{Holds, some, counted, stratum_bottom, stratum_holds, level_within, same_here, same_done}
use Rattle.crossed_bounds.specs.Crossed.{IsTwoValued, two_levels, levels_bound, crossed_bound, paired_bound, TwoLevelsBound}
use Rattle.crossed_bounds.proofs.Counted.{levels_hold}

-- ---- bottoms
two_bottom : (end : End) (n : Weights) (q : Asked) (r t : ℕ → ℕ) → 1 ≤ level n q r * level n q t → 1 ≤ (two_levels end n q r t).bottom
two_bottom AtLeast n q r t h = h
two_bottom AtMost n q r t h = h

levels_bottom : (end : End) (n : Weights) (q : Asked) (r t : ℕ → ℕ) → 1 ≤ (levels_bound end n q r t).bottom
levels_bottom end n q r t = go (eqb (level n q r * level n q t) 0) refl
  where
    go : (c : Bool) → eqb (level n q r * level n q t) 0 ≡ c → 1 ≤ (cond c (trivial end) (two_levels end n q r t)).bottom
    go true e = trivial_bottom end
    go false e = two_bottom end n q r t (let d : level n q r * level n q t ≡ 0 → ⊥ = λ z. absurd (grind (arith, z, e)) in omega arith)

crossed_bottom : (end : End) (n : Weights) (q : Asked) (s : ℕ → ℕ) → 1 ≤ (crossed_bound end n q s).bottom
crossed_bottom end n q s = tightest_bottom end q.z n.size n.vertices (λ r. tightest_over end q.z n.size n.vertices (levels_bound end n q r) s) s
    (λ r. tightest_bottom end q.z n.size n.vertices (levels_bound end n q r) s (λ t. levels_bottom end n q r t))

pub paired_bottom : (end : End) (n : Weights) (q : Asked) (s : ℕ → ℕ) → 1 ≤ (paired_bound end n q s).bottom
paired_bottom end n q s = tighter_one end (crossed_bound end n q s) (stratum_bound end n q s) (λ f. 1 ≤ f.bottom) (crossed_bottom end n q s)
    (stratum_bottom end n q s)

pub paired_is_natural : (end : End) (n : Weights) (q : Asked) (s : ℕ → ℕ) → Bounds end (stratum_bound end n q s) (paired_bound end n q s)
paired_is_natural end n q s = tighter_second end (crossed_bound end n q s) (stratum_bound end n q s) (crossed_bottom end n q s) (stratum_bottom end n q s)

pub paired_is_levels : (end : End) (n : Weights) (q : Asked) (s r t : ℕ → ℕ) → IsIn q.z n.size n.vertices s r → IsIn q.z n.size n.vertices s t
    → Bounds end (levels_bound end n q r t) (paired_bound end n q s)
paired_is_levels end n q s r t r_in t_in = bounds_trans end (levels_bound end n q r t) (crossed_bound end n q s) (paired_bound end n q s)
    (bounds_trans end (levels_bound end n q r t) (tightest_over end q.z n.size n.vertices (levels_bound end n q r) s) (crossed_bound end n q s)
    (tightest_is_tightest end q.z n.size n.vertices (levels_bound end n q r) s t (λ t. levels_bottom end n q r t) t_in)
    (tightest_is_tightest end q.z n.size n.vertices (λ r. tightest_over end q.z n.size n.vertices (levels_bound end n q r) s) s r
    (λ r. tightest_bottom end q.z n.size n.vertices (levels_bound end n q r) s (λ t. levels_bottom end n q r t)) r_in))
    (tighter_first end (crossed_bound end n q s) (stratum_bound end n q s) (crossed_bottom end n q s) (stratum_bottom end n q s))

times_none : (a b : ℕ) → a ≡ 0 → a * b ≡ 0
times_none a b e = subst (λ i. i * b ≡ 0) (sym e) (omega arith)

module _ (g : MixedGraph) (ok : IsMixedGraph g) (used : ℕ → Bool) (q : Asked) (asked : IsAskedOf g used q) (m : FiniteModel) (fit : Fits g m) (n : Weights)
    (all : ℕ) (match : AreProportional used n all (weights_of m) (total m)) (b : IsTwoValued n q.x) where
  abbrev here_at : (ℕ → ℕ) → ℕ
  here_at s = weight_of m nothing (fixed q) s

  abbrev done_at : (ℕ → ℕ) → ℕ
  done_at s = weight_of m q.x (λ v. q.y v || fixed q v) s

  pub trivial_holds : (end : End) (s : ℕ → ℕ) → IsAssignment m.vertices m.size s → Holds end (trivial end) (here_at s) (done_at s)
  trivial_holds AtLeast s within = omega arith
  trivial_holds AtMost s within =
      let a = wider m q.x (λ v. q.y v || fixed q v) (fixed q) s (λ v i. or_right (q.y v) (fixed q v) i) in
      let e = unmoved_weight g ok q.x q.y q.z (fixed q) asked.instrument m fit s within (fixed q) (λ v i. or_right (q.z v) (fixed q v) i) in
      omega (arith, a, e)

  -- ---- two levels
  module _ (s : ℕ → ℕ) (within : IsAssignment m.vertices m.size s) (r t : ℕ → ℕ) (r_in : IsIn q.z n.size n.vertices s r)
      (t_in : IsIn q.z n.size n.vertices s t) where
    two_hold : (end : End) → Holds end (two_levels end n q r t) (here_at s) (done_at s)
    two_hold end = subst (λ w. Holds end (two_levels end n q r t) w (done_at s)) (same_here g ok used q asked m fit n all match s r within r_in)
        (subst (λ x. Holds end (two_levels end n q r t) (here_at r) x) (same_done g ok used q asked m fit n all match s r within r_in)
        (levels_hold g ok used q asked m fit n all match b r (level_within g ok used q asked m fit n all match s r within r_in)
        t (level_within g ok used q asked m fit n all match s t within t_in)
        (λ v e. t_in.outside v (λ lt i. not_both (q.z v) i e) ∙ sym (r_in.outside v (λ lt i. not_both (q.z v) i e))) end))

    levels_bound_holds : (end : End) → Holds end (levels_bound end n q r t) (here_at s) (done_at s)
    levels_bound_holds end = go (eqb (level n q r * level n q t) 0)
      where
        go : (c : Bool) → Holds end (cond c (trivial end) (two_levels end n q r t)) (here_at s) (done_at s)
        go true = trivial_holds end s within
        go false = two_hold end

  -- ---- a stratum
  module _ (s : ℕ → ℕ) (within : IsAssignment m.vertices m.size s) where
    crossed_holds : (end : End) → Holds end (crossed_bound end n q s) (here_at s) (done_at s)
    crossed_holds end =
        elim (tightest_is_one end q.z n.size n.vertices (λ r. tightest_over end q.z n.size n.vertices (levels_bound end n q r) s) s) [
          | inl e ↦ subst (λ f. Holds end f (here_at s) (done_at s)) (sym e) (trivial_holds end s within)
          | inr h ↦ subst (λ f. Holds end f (here_at s) (done_at s)) (sym h.2)
              (elim (tightest_is_one end q.z n.size n.vertices (levels_bound end n q h.0) s) [
                | inl e ↦ subst (λ f. Holds end f (here_at s) (done_at s)) (sym e) (trivial_holds end s within)
                | inr k ↦ subst (λ f. Holds end f (here_at s) (done_at s)) (sym k.2) (levels_bound_holds s within h.0 k.0 h.1 k.1 end)
              ])
        ]

    pub paired_holds : (end : End) → Holds end (paired_bound end n q s) (here_at s) (done_at s)
    paired_holds end = tighter_one end (crossed_bound end n q s) (stratum_bound end n q s) (λ f. Holds end f (here_at s) (done_at s))
        (crossed_holds end) (stratum_holds g ok used q asked m fit n all match end s within)

    -- ---- where the stratum has no weight
    no_level : (r : ℕ → ℕ) → IsIn q.z n.size n.vertices s r → here_at s ≡ 0 → level n q r ≡ 0
    no_level r r_in none =
        let a = counted g ok used q asked m fit n all match (λ v. q.z v || fixed q v)
        (λ v i. or_right (q.x v) (q.y v || (q.z v || fixed q v)) (or_right (q.y v) (q.z v || fixed q v) i)) r
        (level_within g ok used q asked m fit n all match s r within r_in) in
        let w = wider m nothing (λ v. q.z v || fixed q v) (fixed q) r (λ v i. or_right (q.z v) (fixed q v) i) in
        let e : weight_of m nothing (λ v. q.z v || fixed q v) r ≡ 0 =
        (let s = same_here g ok used q asked m fit n all match s r within r_in in omega (arith, w, s, none)) in
        go (level n q r) refl (ap (λ k. k * all) (sym e) ∙ a)
      where
        go : (k : ℕ) → level n q r ≡ k → 0 * all ≡ level n q r * total m → level n q r ≡ 0
        go zero f h = f
        go (suc k) f h = absurd (let p = positive-times (level n q r) (total m) (omega (arith, f)) (some g ok used q asked m fit n all match) in
            omega (arith, p, h))

    natural_trivial : (end : End) → here_at s ≡ 0 → stratum_bound end n q s ≡ trivial end
    natural_trivial end none = elim (tightest_is_one end q.z n.size n.vertices (bound_at end n q) s) [
      | inl e ↦ e
      | inr h ↦ h.2 ∙ ap (λ k. cond (eqb k 0) (trivial end) (said end n q h.0)) (no_level h.0 h.1 none)
    ]

    crossed_trivial : (end : End) → here_at s ≡ 0 → crossed_bound end n q s ≡ trivial end
    crossed_trivial end none =
        elim (tightest_is_one end q.z n.size n.vertices (λ r. tightest_over end q.z n.size n.vertices (levels_bound end n q r) s) s) [
          | inl e ↦ e
          | inr h ↦ h.2 ∙ elim (tightest_is_one end q.z n.size n.vertices (levels_bound end n q h.0) s) [
            | inl e ↦ e
            | inr k ↦ k.2 ∙ ap (λ i. cond (eqb i 0) (trivial end) (two_levels end n q h.0 k.0))
                (times_none (level n q h.0) (level n q k.0) (no_level h.0 h.1 none))
          ]
        ]

    pub paired_trivial : (end : End) → here_at s ≡ 0 → paired_bound end n q s ≡ trivial end
    paired_trivial end none = ap₂ (λ f h. tighter end f h) (crossed_trivial end none) (natural_trivial end none) ∙ go end
      where
        go : (end : End) → tighter end (trivial end) (trivial end) ≡ trivial end
        go AtLeast = refl
        go AtMost = refl

  -- ---- the effect in a stratum
  levels_probability : (end : End) (s : ℕ → ℕ) → IsAssignment m.vertices m.size s → (r t : ℕ → ℕ) → IsIn q.z n.size n.vertices s r
      → IsIn q.z n.size n.vertices s t → 1 ≤ level n q r → 1 ≤ level n q t → Bounds end (two_levels end n q r t) (probability m q.x q.y (fixed q) s)
  levels_probability end s within r t r_in t_in r_some t_some = go end
    where
      unmoved : weight_of m q.x (fixed q) s ≡ here_at s
      unmoved = unmoved_weight g ok q.x q.y q.z (fixed q) asked.instrument m fit s within (fixed q) (λ v i. or_right (q.z v) (fixed q v) i)

      level_some : 1 ≤ weight_of m nothing (λ v. q.z v || fixed q v) r
      level_some = positive_left (weight_of m nothing (λ v. q.z v || fixed q v) r) all (level n q r) (total m)
          (counted g ok used q asked m fit n all match (λ v. q.z v || fixed q v)
          (λ v i. or_right (q.x v) (q.y v || (q.z v || fixed q v)) (or_right (q.y v) (q.z v || fixed q v) i)) r
          (level_within g ok used q asked m fit n all match s r within r_in)) r_some (some g ok used q asked m fit n all match)

      here_some : 1 ≤ weight_of m q.x (fixed q) s
      here_some =
          let w = wider m nothing (λ v. q.z v || fixed q v) (fixed q) r (λ v i. or_right (q.z v) (fixed q v) i) in
          let e = same_here g ok used q asked m fit n all match s r within r_in in
          omega (arith, w, e, unmoved, level_some)

      bottom : 1 ≤ level n q r * level n q t
      bottom = positive-times (level n q r) (level n q t) r_some t_some

      go : (end : End) → Bounds end (two_levels end n q r t) (probability m q.x q.y (fixed q) s)
      go AtLeast = record {
        left_bottom = bottom;
        right_bottom = here_some;
        products = subst (λ w. (two_levels AtLeast n q r t).top * w ≤ done_at s * (level n q r * level n q t)) (sym unmoved)
            (two_hold s within r t r_in t_in AtLeast);
      }
      go AtMost = record {
        left_bottom = here_some;
        right_bottom = bottom;
        products = subst (λ w. done_at s * (level n q r * level n q t) ≤ (two_levels AtMost n q r t).top * w) (sym unmoved)
            (two_hold s within r t r_in t_in AtMost);
      }

pub two_levels_bound : TwoLevelsBound
two_levels_bound end g ok used q asked n b all s r t r_in t_in r_some t_some m fit match within =
    levels_probability g ok used q asked m fit n all match b end s within r t r_in t_in r_some t_some
