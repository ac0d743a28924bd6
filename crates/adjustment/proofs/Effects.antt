-- The adjustment formula is the effect.
use Rattle.std.proofs.Common.{ℕ, zero, suc, ◌*◌, ◌≡◌, ◌<◌, ◌≤◌, ◌↔◌, ◌==◌, Bool, true, false, cond, refl, sym, ap, ◌∙◌, ◌||◌, IsTrue, subst, arith, eqb-true}
use Rattle.std.proofs.lemmas.Bool.{and_parts, and_from}
use Rattle.mixed_graph.specs.Vocabulary.{has, MixedGraph, IsMixedGraph, IsAncestor, IsDescendant, union, one, is_empty}
use Rattle.mixed_graph.proofs.Masks.{has-zero, has-pow}
use Rattle.m_separation.specs.Vocabulary.{IsSeparated}
use Rattle.do_rules.specs.Vocabulary.{cut_into, cut_out, AreThreeSets}
use Rattle.fractions.specs.Vocabulary.{Fraction, over, IsEqual}
use Rattle.finite_models.specs.Vocabulary.{sum_over, set_at, FiniteModel, Fits, IsAssignment, IsPositiveModel, event_weight, weight_of, total}
use Rattle.finite_models.proofs.Bools.{not_both}
use Rattle.finite_models.proofs.Following.{follows_of}
use Rattle.finite_models.proofs.Ranks.{with_rank}
use Rattle.finite_models.proofs.SumLaws.{along, set_at-other}
use Rattle.finite_models.proofs.Tested.{Test, tested, stable}
use Rattle.finite_models.proofs.Weights.{weight-none}
use Rattle.prob_expr.specs.Tree.{prob, product, tree}
use Rattle.prob_expr.specs.Vocabulary.{no_trees, effect_on, weights_of, value, value_of, effect, EqualsEffect}
use Rattle.prob_expr.proofs.Boxes.{assignment_set, add_over_whole}
use Rattle.prob_expr.proofs.ValueLaws.{value_positive, formula_positive, term_positive}
use Rattle.adjustment.specs.Proper.{IsBetween}
use Rattle.adjustment.proofs.Causal.{below_from, between_first}
use Rattle.adjustment.proofs.FirstEdges.{cut_arrows, firsts}
use Rattle.adjustment.specs.Criteria.{IsForbidden, IsAdmissible}
use Rattle.adjustment.specs.Faults.{IsClearOf}
use Rattle.adjustment.specs.Formulas.{adjusted_sum, adjustment_formula}
use Rattle.adjustment.proofs.Observed.{no_bits, turned, turned_pair, turned_one, joined, whole, observed, all_worlds}
use Rattle.adjustment.proofs.Held.{hold_arrows, term_is, sum_is_effect}
use Rattle.adjustment.proofs.Separating.{clear_of_firsts, separated_from, clear_of_out}
use Rattle.adjustment.proofs.Walks.{IsClear}

-- the product of P(z) and P(y | x, z), over one bottom
scaled : (z xyz xz part t p q r u : ℕ) → p ≡ z → q ≡ t → r ≡ xyz → u ≡ xz → xyz * z ≡ xz * part → (p * (r * 1)) * t ≡ part * (q * (u * 1))
scaled z xyz xz part t p q r u ez et exyz exz h = rw (ez, et, exyz, exz) (let e = ap (λ k. k * t) h in omega (arith, e))

-- P(y | x), over that bottom
unscaled : (z xyz xz part t r u e : ℕ) → z ≡ t → r ≡ xyz → u ≡ xz → part ≡ e → xyz * z ≡ xz * part → r * t ≡ e * u
unscaled z xyz xz part t r u e ez exyz exz ep h = rw (exyz, exz, sym ep, sym ez) (omega (arith, h))

moved : (f : Fraction) (p q p' q' : ℕ) → p ≡ p' → q ≡ q' → IsEqual f (over p q) → IsEqual f (over p' q')
moved f p q p' q' a b k = subst (λ t. IsEqual f (over t q')) a (subst (λ t. IsEqual f (over p t)) b k)

-- a sum over no vertex
sum_none : (u : ℕ → Bool) (s : ℕ → ℕ) (n : ℕ) (f : (ℕ → ℕ) → ℕ) (b : ℕ → ℕ) → ((v : ℕ) → u v ≡ false) → sum_over u s n f b ≡ f b
sum_none u s zero f b none = refl
sum_none u s (suc n) f b none = go (u n) (none n) (sum_none u s n f b none)
  where
    go : (p : Bool) → p ≡ false → sum_over u s n f b ≡ f b → along p (s n) n (sum_over u s n f) b ≡ f b
    go false e ih = ih
    go true e ih = absurd (grind (arith, e))

module _ (g : MixedGraph) (ok : IsMixedGraph g) (x y z : ℕ) (sets : AreThreeSets g.vertices (has x) (has y) (has z))
    (E : ℕ → ℕ → Bool) (tails : (u v : ℕ) → E u v ≡ true → has x u ≡ true) (clear : IsClear g E (has z))
    (cover : (u v : ℕ) → has x u ≡ true → g.arrow u v ≡ true → has x v ≡ false → IsAncestor (cut_into g (has x)) (has y) v → E u v ≡ true)
    (sep : IsSeparated (cut_arrows g E) (has x) (has y) (has z)) where
  module _ (m : FiniteModel) (fit : Fits g m) (positive : IsPositiveModel m) (s : ℕ → ℕ) (within : IsAssignment m.vertices m.size s) where
    -- the weight of y and z with the arrows held
    part : (ℕ → ℕ) → ℕ
    part c = event_weight (hold_arrows m E s) (λ v. has y v || has z v) c

    term : (c : ℕ → ℕ) → ((v : ℕ) → has z v ≡ false → c v ≡ s v)
        → event_weight m (λ v. has x v || (has y v || has z v)) c * event_weight m (has z) c ≡ event_weight m (λ v. has x v || has z v) c * part c
    unfolding part
    term c same =
        with_rank g ok (event_weight m (λ v. has x v || (has y v || has z v)) c * event_weight m (has z) c)
        (event_weight m (λ v. has x v || has z v) c * event_weight (hold_arrows m E s) (λ v. has y v || has z v) c)
        (λ rank ranked. term_is g m rank ok ranked (follows_of g m fit) s within E (has x) (has y) (has z)
        tails clear cover sets.x_y sets.x_w sets.y_w sets.x_within sets.y_within sets.w_within sep c same)

    sum_is : sum_over (has z) m.size m.vertices part s ≡ weight_of m (has x) (λ v. has y v || has 0 v) s
    unfolding part
    sum_is =
        with_rank g ok (sum_over (has z) m.size m.vertices (event_weight (hold_arrows m E s) (λ v. has y v || has z v)) s) (weight_of m (has x) (has y) s)
        (λ rank ranked. sum_is_effect g m rank ok ranked (follows_of g m fit) s within E (has x) (has y) (has z) tails clear cover sets.x_y sets.x_w sets.y_w)
        ∙ ap (λ a. weight_of m (has x) a s) (sym (no_bits (has y)))

    total_positive : 1 ≤ total m
    total_positive = let p = (term_positive g ok m fit positive y x 0 s within).bottom in subst (λ t. 1 ≤ t) (whole m x s) p

    each_term : (c : ℕ → ℕ) → IsAssignment m.vertices m.size c → ((v : ℕ) → has z v ≡ false → c v ≡ s v)
        → IsEqual (value (weights_of m) (λ j t. over 1 1) (product (tree (prob z 0 0) (tree (prob y 0 (union x z)) no_trees))) c) (over (part c) (total m))
    each_term c inside same = record {
      left_bottom = (value_positive g ok m fit positive (λ j t. over 1 1) (λ k t w. record { top = omega arith; bottom = omega arith })
          (product (tree (prob z 0 0) (tree (prob y 0 (union x z)) no_trees))) c inside).bottom;
      right_bottom = total_positive;
      products = scaled (event_weight m (has z) c) (event_weight m (λ v. has x v || (has y v || has z v)) c) (event_weight m (λ v. has x v || has z v) c)
          (part c) (total m)
          (weight_of m (has 0) (λ v. has z v || has 0 v) c) (weight_of m (has 0) (has 0) c) (weight_of m (has 0) (λ v. has y v || has (union x z) v) c)
          (weight_of m (has 0) (has (union x z)) c)
          (observed m (λ v. has z v || has 0 v) (has z) c (no_bits (has z))) (all_worlds m c)
          (observed m (λ v. has y v || has (union x z) v) (λ v. has x v || (has y v || has z v)) c (turned x y z))
          (observed m (has (union x z)) (λ v. has x v || has z v) c (joined x z)) (term c same);
    }

    -- c is an assignment that differs from s on z at most
    abbrev IsNearby : (ℕ → ℕ) → Type 0
    IsNearby c = IsAssignment m.vertices m.size c × ((v : ℕ) → has z v ≡ false → c v ≡ s v)

    stays_nearby : (c : ℕ → ℕ) (i t : ℕ) → i < m.vertices → has z i ≡ true → t < m.size i → IsNearby c → IsNearby (set_at c i t)
    stays_nearby c i t il zi tl p = (
      assignment_set m.vertices m.size c i t tl p.0,
      λ v out. set_at-other c i t v (λ e. not_both (has z v) (rw e zi) out) ∙ p.1 v out,
    )

    sum_equal : IsEqual (value (weights_of m) (λ j t. over 1 1) (adjusted_sum x y z) s) (effect m (effect_on x y) s)
    sum_equal =
        moved (value (weights_of m) (λ j t. over 1 1) (adjusted_sum x y z) s) (sum_over (has z) m.size m.vertices part s) (total m)
        (weight_of m (has x) (λ v. has y v || has 0 v) s) (weight_of m (has x) (has 0) s)
        sum_is (sym (whole m x s))
        (add_over_whole (has z) m.size IsNearby m.vertices (total m) (value (weights_of m) (λ j t. over 1 1)
        (product (tree (prob z 0 0) (tree (prob y 0 (union x z)) no_trees)))) part s total_positive
        stays_nearby (within, λ v out. refl) (λ c p. each_term c p.0 p.1))

    simple_equal : ((v : ℕ) → has z v ≡ false) → IsEqual (value (weights_of m) (λ j t. over 1 1) (prob y 0 x) s) (effect m (effect_on x y) s)
    simple_equal none = record {
      left_bottom = (term_positive g ok m fit positive y 0 x s within).bottom;
      right_bottom = (term_positive g ok m fit positive y x 0 s within).bottom;
      products = subst (λ t. weight_of m (has 0) (λ v. has y v || has x v) s * t
          ≡ weight_of m (has x) (λ v. has y v || has 0 v) s * weight_of m (has 0) (has x) s) (sym (whole m x s))
          (unscaled (event_weight m (has z) s) (event_weight m (λ v. has x v || (has y v || has z v)) s) (event_weight m (λ v. has x v || has z v) s) (part s)
          (total m)
          (weight_of m (has 0) (λ v. has y v || has x v) s) (weight_of m (has 0) (has x) s) (weight_of m (has x) (λ v. has y v || has 0 v) s)
          (weight-none m (has z) s none) (observed m (λ v. has y v || has x v) (λ v. has x v || (has y v || has z v)) s (turned_pair x y z none))
          (observed m (has x) (λ v. has x v || has z v) s (turned_one x z none))
          (sym (sum_none (has z) m.size m.vertices part s none) ∙ sum_is) (term s (λ v out. refl)));
    }

    formula_equal : IsEqual (value_of (weights_of m) (adjustment_formula x y z) s) (effect m (effect_on x y) s)
    formula_equal = go (is_empty z) refl
      where
        go : (p : Bool) → is_empty z ≡ p → IsEqual (value (weights_of m) (λ j t. over 1 1) (cond p (prob y 0 x) (adjusted_sum x y z)) s)
            (effect m (effect_on x y) s)
        go true e = simple_equal (λ v. ap (λ b. has b v) (eqb-true z 0 e) ∙ has-zero v)
        go false e = sum_equal

  -- whatever the held arrows are: the formula of z is the effect
  pub equals_effect : EqualsEffect g (effect_on x y) (adjustment_formula x y z)
  equals_effect m fit positive s within = formula_equal m fit positive s within

module _ (g : MixedGraph) (ok : IsMixedGraph g) (x y z : ℕ) (sets : AreThreeSets g.vertices (has x) (has y) (has z)) where
  -- the formula of a set that separates in the back-door graph, without a forbidden member
  pub separating_adjusts : (B : ℕ → Bool) → ((v : ℕ) → IsTrue (B v) ↔ IsBetween g (has x) (has y) v) → IsClearOf (IsForbidden g (has x) (has y)) (has z)
      → IsSeparated (cut_arrows g (firsts (has x) B)) (has x) (has y) (has z) → EqualsEffect g (effect_on x y) (adjustment_formula x y z)
  separating_adjusts B is_between clear sep =
      equals_effect g ok x y z sets (firsts (has x) B) (λ u v e. (and_parts (has x u) (B v) e).0)
      (clear_of_firsts g ok (has x) (has y) sets.x_within sets.x_y B is_between (has z) clear)
      (λ u v xu a out i. and_from (has x u) (B v) xu ((is_between v).1 (between_first g ok (has x) (has y) u v xu a out i))) sep

  -- that of an admissible set
  pub admissible_adjusts : IsAdmissible g (has x) (has y) (has z) → EqualsEffect g (effect_on x y) (adjustment_formula x y z)
  admissible_adjusts adm m fit positive s within = record {
    left_bottom = (formula_positive g ok m fit positive (adjustment_formula x y z) s within).bottom;
    right_bottom = (term_positive g ok m fit positive y x 0 s within).bottom;
    products = stable ((value_of (weights_of m) (adjustment_formula x y z) s).top * (effect m (effect_on x y) s).bottom)
        ((effect m (effect_on x y) s).top * (value_of (weights_of m) (adjustment_formula x y z) s).bottom)
        (λ differ. tested (IsBetween g (has x) (has y)) g.vertices (λ t. differ (with_test t m fit positive s within).products));
  }
    where
      with_test : Test (IsBetween g (has x) (has y)) g.vertices → EqualsEffect g (effect_on x y) (adjustment_formula x y z)
      with_test t =
          let is_between : (v : ℕ) → IsTrue (t.test v) ↔ IsBetween g (has x) (has y) v =
          λ v. (t.sound v, λ b. t.complete v (below_from g ok (has x) (has y) sets.x_within v b).vertex b) in
          separating_adjusts t.test is_between adm.clear (separated_from g ok (has x) (has y) sets.x_within sets.x_y t.test is_between (has z) sets.x_w adm)

-- the formula of a set that separates once the arrows out of x are cut, without a descendant of x
pub unconfounded_adjusts : (g : MixedGraph) → IsMixedGraph g → (x y z : ℕ) → AreThreeSets g.vertices (has (one x)) (has y) (has z)
    → IsClearOf (IsDescendant g (λ u. u == x)) (has z)
    → IsSeparated (cut_out g (has (one x))) (has (one x)) (has y) (has z) → EqualsEffect g (effect_on (one x) y) (adjustment_formula (one x) y z)
unconfounded_adjusts g ok x y z sets clear sep =
    equals_effect g ok (one x) y z sets (λ u v. has (one x) u) (λ u v e. e)
    (λ u v a e. clear_of_out g ok x (has z) clear u v a (sym (has-pow x u) ∙ e)) (λ u v xu a out i. xu) sep
