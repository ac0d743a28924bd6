-- The adjustment formula of an admissible set, by the rule that a product with a factor 0 is 0, lies at both ends of the bounds by that set.
use Rattle.std.proofs.Common.{ℕ, zero, suc, ◌*◌, ◌≡◌, ◌<◌, ◌≤◌, Bool, true, false, cond, eqb, not, ◌||◌, ◌&&◌, refl, sym, ap, ap₂, ◌∙◌, subst, IsTrue, arith}
use Rattle.std.proofs.Common.{List, [], eqb-true, ne_eqb}
use mathlib.Core.Path.{fun_ext}
use Rattle.mixed_graph.specs.Vocabulary.{has, MixedGraph, IsMixedGraph, union, is_empty}
use Rattle.mixed_graph.proofs.Masks.{has-zero}
use Rattle.mixed_graph.proofs.MaskLaws.{has_join}
use Rattle.fractions.specs.Vocabulary.{Fraction, over, IsEqual, mul}
use Rattle.finite_models.specs.Vocabulary.{set_at, all_below, FiniteModel, Fits, IsAssignment, event_weight, weight_of, probability, total}
use Rattle.finite_models.proofs.Indicators.{all_below_from}
use Rattle.finite_models.proofs.Weights.{weight-none, weight_of-none}
use Rattle.do_rules.specs.Vocabulary.{AreThreeSets}
use Rattle.prob_expr.specs.Tree.{Tree, prob, product, tree}
use Rattle.prob_expr.specs.Vocabulary.{no_trees, PlainFormula, effect_on, Weights, weights_of, add_over, effect}
use Rattle.prob_expr.proofs.Boxes.{assignment_set, IsStable, add_over_equal}
use Rattle.adjustment.specs.Vocabulary.{IsAdmissible, adjusted_sum, adjustment_formula}
use Rattle.count_eval.specs.Vocabulary.{IsMatched, all_over, has_value_with_zeros, value_with_zeros}
use Rattle.natural_bounds.specs.declared.ends.End.{End}
use Rattle.natural_bounds.specs.declared.ends.End.TheVariants.{AtLeast, AtMost}
use Rattle.natural_bounds.specs.Vocabulary.{nothing, IsAtMost, trivial, Asked, stratum, condition, treated, joint, share}
use Rattle.natural_bounds.specs.Orders.{Bounds}
use Rattle.natural_bounds.proofs.Summed.{positive_left}
use Rattle.natural_bounds.proofs.Orders.{positive-times, trivial_bottom, at_most_trans, equal_at_most, equal_at_least}
use Rattle.hidden_models.proofs.Totals.{total_positive}
use Rattle.adjusted_bounds.specs.Vocabulary.{IsAdjusted, adjusted_at, adjusted_bound, AdjustedBoundsHold}
use Rattle.weak_adjustment.specs.Weakly.{IsWeaklyPositive, IsEffectWithZeros, AdmissibleAdjustsMatched, AdmissibleAdjustsWeakly}

-- ---- one stratum, by its numbers: c of all, z in the stratum, x with the arm, j with the arm and y; and by which of them are 0
-- what the rule says of the stratum's term
abbrev ruled_by : (c z x j : ℕ) → (no_c no_z no_x no_j : Bool) → Fraction
ruled_by c z x j no_c no_z no_x no_j =
    cond ((not no_c && no_z) || ((not no_x && no_j) || false)) (over 0 1) (mul (over z c) (mul (over j x) (over 1 1)))

-- what the bound says
abbrev bounded_by : End → (c z x j : ℕ) → (no_x : Bool) → Fraction
bounded_by end c z x j no_x = mul (over z c) (cond no_x (trivial end) (over j x))

-- and whether the term has a value
abbrev supported_by : (no_c no_z no_x no_j : Bool) → Bool
supported_by no_c no_z no_x no_j = ((not no_c && no_z) || ((not no_x && no_j) || false)) || (not no_c && (not no_x && true))

some_of : (n : ℕ) → eqb n 0 ≡ false → 1 ≤ n
some_of n e = let d : n ≡ 0 → ⊥ = λ z. absurd (grind (arith, z, e)) in omega arith

arm_bottom : (end : End) (x j : ℕ) (no_x : Bool) → eqb x 0 ≡ no_x → 1 ≤ (cond no_x (trivial end) (over j x)).bottom
arm_bottom end x j true e = trivial_bottom end
arm_bottom end x j false e = some_of x e

by_numbers : (end : End) (c z x j : ℕ) (no_c no_z no_x no_j : Bool) → eqb c 0 ≡ no_c → eqb z 0 ≡ no_z → eqb x 0 ≡ no_x → eqb j 0 ≡ no_j
    → 1 ≤ c → (1 ≤ z → 1 ≤ x) → IsEqual (ruled_by c z x j no_c no_z no_x no_j) (bounded_by end c z x j no_x)
by_numbers end c z x j true no_z no_x no_j a b d e some weak = absurd (let k = eqb-true c 0 a in omega (arith, some, k))
by_numbers end c z x j false true no_x no_j a b d e some weak =
    let f = cond no_x (trivial end) (over j x) in
    record {
      left_bottom = omega arith;
      right_bottom = positive-times c f.bottom some (arm_bottom end x j no_x d);
      products = subst (λ k. 0 * (c * f.bottom) ≡ (k * f.top) * 1) (sym (eqb-true z 0 b))
          (let r : 0 * (c * f.bottom) ≡ (0 * f.top) * 1 = omega arith in r);
    }
by_numbers end c z x j false false true no_j a b d e some weak =
    absurd (let k = eqb-true x 0 d in let le = weak (some_of z b) in omega (arith, le, k))
by_numbers end c z x j false false false true a b d e some weak = record {
  left_bottom = omega arith;
  right_bottom = positive-times c x some (some_of x d);
  products = subst (λ k. 0 * (c * x) ≡ (z * k) * 1) (sym (eqb-true j 0 e)) (let r : 0 * (c * x) ≡ (z * 0) * 1 = omega arith in r);
}
by_numbers end c z x j false false false false a b d e some weak = record {
  left_bottom = positive-times c (x * 1) some (positive-times x 1 (some_of x d) (omega arith));
  right_bottom = positive-times c x some (some_of x d);
  products = (let r : (z * (j * 1)) * (c * x) ≡ (z * j) * (c * (x * 1)) = omega arith in r);
}

by_which : (c z x j : ℕ) (no_c no_z no_x no_j : Bool) → eqb c 0 ≡ no_c → eqb z 0 ≡ no_z → eqb x 0 ≡ no_x → 1 ≤ c → (1 ≤ z → 1 ≤ x)
    → supported_by no_c no_z no_x no_j ≡ true
by_which c z x j true no_z no_x no_j a b d some weak = absurd (let k = eqb-true c 0 a in omega (arith, some, k))
by_which c z x j false true no_x no_j a b d some weak = refl
by_which c z x j false false true no_j a b d some weak = absurd (let k = eqb-true x 0 d in let le = weak (some_of z b) in omega (arith, le, k))
by_which c z x j false false false true a b d some weak = refl
by_which c z x j false false false false a b d some weak = refl

abbrev ruled : (c z x j : ℕ) → Fraction
ruled c z x j = ruled_by c z x j (eqb c 0) (eqb z 0) (eqb x 0) (eqb j 0)

abbrev bounded : End → (c z x j : ℕ) → Fraction
bounded end c z x j = bounded_by end c z x j (eqb x 0)

abbrev supported : (c z x j : ℕ) → Bool
supported c z x j = supported_by (eqb c 0) (eqb z 0) (eqb x 0) (eqb j 0)

term_equal : (end : End) (c z x j : ℕ) → 1 ≤ c → (1 ≤ z → 1 ≤ x) → IsEqual (ruled c z x j) (bounded end c z x j)
term_equal end c z x j some weak = by_numbers end c z x j (eqb c 0) (eqb z 0) (eqb x 0) (eqb j 0) refl refl refl refl some weak

term_supported : (c z x j : ℕ) → 1 ≤ c → (1 ≤ z → 1 ≤ x) → supported c z x j ≡ true
term_supported c z x j some weak = by_which c z x j (eqb c 0) (eqb z 0) (eqb x 0) (eqb j 0) refl refl refl some weak

-- two fractions in order both ways are equal
both_ways : (f h : Fraction) → IsAtMost f h → IsAtMost h f → IsEqual f h
both_ways f h p q = record {
  left_bottom = p.left_bottom;
  right_bottom = p.right_bottom;
  products = (let a = p.products in let b = q.products in omega (arith, a, b));
}

-- what holds at each point holds over a box
all_over_from : (u : ℕ → Bool) (s : ℕ → ℕ) (P : (ℕ → ℕ) → Type 0) (n : ℕ) (F : (ℕ → ℕ) → Bool) (b : ℕ → ℕ) → IsStable n u s P → P b
    → ((c : ℕ → ℕ) → P c → F c ≡ true) → all_over u s n F b ≡ true
all_over_from u s P zero F b k p h = h b p
all_over_from u s P (suc n) F b k p h =
    go (u n) refl (λ c pc. all_over_from u s P n F c (λ c' i x lt. k c' i x (omega arith)) pc h)
  where
    go : (v : Bool) → u n ≡ v → ((c : ℕ → ℕ) → P c → all_over u s n F c ≡ true)
        → cond v (all_below (s n) (λ x. all_over u s n F (set_at b n x))) (all_over u s n F b) ≡ true
    go true e ih = all_below_from (s n) (λ x. all_over u s n F (set_at b n x)) (λ x lt. ih (set_at b n x) (k b n x (omega arith) e lt p))
    go false e ih = ih b p

-- a sum over no coordinate is its term
over_none : (u : ℕ → Bool) (s : ℕ → ℕ) → ((v : ℕ) → u v ≡ false) → (n : ℕ) (f : (ℕ → ℕ) → Fraction) (b : ℕ → ℕ) → add_over u s n f b ≡ f b
over_none u s none zero f b = refl
over_none u s none (suc n) f b = rw (none n) (over_none u s none n f b)

module _ (bounds_hold : AdjustedBoundsHold) (g : MixedGraph) (ok : IsMixedGraph g) (x y z : ℕ) (sets : AreThreeSets g.vertices (has x) (has y) (has z))
    (admissible : IsAdmissible g (has x) (has y) (has z)) (m : FiniteModel) (fit : Fits g m) (weak : IsWeaklyPositive m (has x) (has z))
    (used : ℕ → Bool) (w : Weights) (all : ℕ) (match : IsMatched used w all m)
    (covered : (v : ℕ) → IsTrue (has x v || (has y v || has z v)) → used v ≡ true) (s : ℕ → ℕ) (within : IsAssignment m.vertices m.size s) where
  abbrev q : Asked
  q = record { x = has x; y = has y; z = nothing; u = has z; c = nothing }

  asked : IsAdjusted g used q
  asked = record { sets = sets; admissible = admissible; no_instrument = λ v. refl; no_condition = λ v. refl; covered = covered }

  bound : (end : End) → Bounds end (adjusted_bound end w q s) (probability m (has x) (has y) nothing s)
  bound end = bounds_hold end g ok used q asked w all s m fit match within

  some : 1 ≤ total m
  some = total_positive g m fit

  counted : (a : ℕ → Bool) → ((v : ℕ) → a v ≡ true → (has x v || (has y v || has z v)) ≡ true) → (t : ℕ → ℕ) → IsAssignment m.vertices m.size t
      → event_weight m a t * all ≡ w.weight nothing a t * total m
  counted a inside t wt = ap (λ k. k * all) (sym (weight_of-none m nothing a t (λ v. refl))) ∙ match.weights a (λ v i. covered v (inside v i)) t wt

  -- the numbers of a stratum
  abbrev c₀ : (ℕ → ℕ) → ℕ
  c₀ t = w.weight nothing nothing t

  abbrev z₀ : (ℕ → ℕ) → ℕ
  z₀ t = w.weight nothing (has z) t

  abbrev x₀ : (ℕ → ℕ) → ℕ
  x₀ t = w.weight nothing (λ v. has x v || has z v) t

  abbrev j₀ : (ℕ → ℕ) → ℕ
  j₀ t = w.weight nothing (λ v. has x v || (has y v || has z v)) t

  c_some : (t : ℕ → ℕ) → IsAssignment m.vertices m.size t → 1 ≤ c₀ t
  c_some t wt = positive_left (c₀ t) (total m) (total m) all
      (sym (ap (λ k. k * all) (sym (weight-none m nothing t (λ v. refl))) ∙ counted nothing (λ v i. absurd (cc)) t wt)) some match.some

  z_in : (v : ℕ) → has z v ≡ true → (has x v || (has y v || has z v)) ≡ true
  z_in v e = grind (arith, e)

  xz_in : (v : ℕ) → (has x v || has z v) ≡ true → (has x v || (has y v || has z v)) ≡ true
  xz_in v e = grind (arith, e)

  x_some : (t : ℕ → ℕ) → IsAssignment m.vertices m.size t → 1 ≤ z₀ t → 1 ≤ x₀ t
  x_some t wt le =
      let e = weak t wt (positive_left (event_weight m (has z) t) all (z₀ t) (total m) (counted (has z) z_in t wt) le some) in
      positive_left (x₀ t) (total m) (event_weight m (λ v. has x v || has z v) t) all
      (sym (counted (λ v. has x v || has z v) xz_in t wt)) e match.some

  -- sets of masks
  nothing_is : has 0 ≡ nothing
  nothing_is = fun_ext has-zero

  same_weight : (t : ℕ → ℕ) (a b : ℕ → Bool) → ((v : ℕ) → a v ≡ b v) → w.weight (has 0) a t ≡ w.weight nothing b t
  same_weight t a b h = ap₂ (λ i j. w.weight i j t) nothing_is (fun_ext h)

  same_set : (t : ℕ → ℕ) (a b : ℕ → Bool) → ((v : ℕ) → a v ≡ b v) → w.weight nothing a t ≡ w.weight nothing b t
  same_set t a b h = ap (λ j. w.weight nothing j t) (fun_ext h)

  or_none : (a b : Bool) → b ≡ false → (a || b) ≡ a
  or_none true b e = refl
  or_none false b e = e

  swapped : (a b c : Bool) → (b || (a || c)) ≡ (a || (b || c))
  swapped true b c = or_true b
    where
      or_true : (d : Bool) → (d || true) ≡ true
      or_true true = refl
      or_true false = refl
  swapped false b c = refl

  -- the numbers of the formula's term
  c_is : (t : ℕ → ℕ) → w.weight (has 0) (has 0) t ≡ c₀ t
  c_is t = same_weight t (has 0) nothing has-zero

  z_is : (t : ℕ → ℕ) → w.weight (has 0) (λ v. has z v || has 0 v) t ≡ z₀ t
  z_is t = same_weight t (λ v. has z v || has 0 v) (has z) (λ v. or_none (has z v) (has 0 v) (has-zero v))

  x_is : (t : ℕ → ℕ) → w.weight (has 0) (has (union x z)) t ≡ x₀ t
  x_is t = same_weight t (has (union x z)) (λ v. has x v || has z v) (λ v. has_join x z v)

  j_is : (t : ℕ → ℕ) → w.weight (has 0) (λ v. has y v || has (union x z) v) t ≡ j₀ t
  j_is t = same_weight t (λ v. has y v || has (union x z) v) (λ v. has x v || (has y v || has z v))
      (λ v. ap (λ b. has y v || b) (has_join x z v) ∙ swapped (has x v) (has y v) (has z v))

  -- and those of the bound's term
  abbrev factors : Tree
  factors = product (tree (prob z 0 0) (tree (prob y 0 (union x z)) no_trees))

  module _ (v : ℕ → (ℕ → ℕ) → Fraction) (h : ℕ → (ℕ → ℕ) → Bool) where
    value_is : (t : ℕ → ℕ) → value_with_zeros w v h factors t ≡ ruled (c₀ t) (z₀ t) (x₀ t) (j₀ t)
    value_is t = ap₂ (λ a b. ruled a b (w.weight (has 0) (has (union x z)) t) (w.weight (has 0) (λ v. has y v || has (union x z) v) t)) (c_is t) (z_is t)
        ∙ ap₂ (λ a b. ruled (c₀ t) (z₀ t) a b) (x_is t) (j_is t)

    supported_is : (t : ℕ → ℕ) → IsAssignment m.vertices m.size t → has_value_with_zeros w v h factors t ≡ true
    supported_is t wt =
        ap₂ (λ a b. supported a b (w.weight (has 0) (has (union x z)) t) (w.weight (has 0) (λ v. has y v || has (union x z) v) t)) (c_is t) (z_is t)
        ∙ ap₂ (λ a b. supported (c₀ t) (z₀ t) a b) (x_is t) (j_is t)
        ∙ term_supported (c₀ t) (z₀ t) (x₀ t) (j₀ t) (c_some t wt) (x_some t wt)

    term_is : (end : End) (t : ℕ → ℕ) → IsAssignment m.vertices m.size t
        → IsEqual (value_with_zeros w v h factors t) (mul (share w q t) (adjusted_at end w q t))
    term_is end t wt = subst (λ f. IsEqual f (mul (share w q t) (adjusted_at end w q t))) (sym (value_is t))
        (subst (λ f. IsEqual (ruled (c₀ t) (z₀ t) (x₀ t) (j₀ t)) f) (sym same) (term_equal end (c₀ t) (z₀ t) (x₀ t) (j₀ t) (c_some t wt) (x_some t wt)))
      where
        same : mul (share w q t) (adjusted_at end w q t) ≡ bounded end (c₀ t) (z₀ t) (x₀ t) (j₀ t)
        same = refl

    stays : IsStable w.vertices (has z) w.size (IsAssignment m.vertices m.size)
    stays c i k lt e kl p = assignment_set m.vertices m.size c i k
        (subst (λ b. k < b) (match.sizes i (subst (λ b. i < b) match.vertices lt) (covered i (z_in i e))) kl) p

    sum_is : (end : End) → IsEqual (add_over (has z) w.size w.vertices (value_with_zeros w v h factors) s) (adjusted_bound end w q s)
    sum_is end = add_over_equal (has z) w.size (IsAssignment m.vertices m.size) w.vertices w.size (value_with_zeros w v h factors)
        (λ t. mul (share w q t) (adjusted_at end w q t)) s (λ i lt. refl) stays within (λ t wt. term_is end t wt)

    sum_supported : all_over (has z) w.size w.vertices (has_value_with_zeros w v h factors) s ≡ true
    sum_supported = all_over_from (has z) w.size (IsAssignment m.vertices m.size) w.vertices (has_value_with_zeros w v h factors) s stays within
        (λ t wt. supported_is t wt)

  effect_is : probability m (has x) (has y) nothing s ≡ effect m (effect_on x y) s
  effect_is = ap (λ k. probability m (has x) (has y) k s) (sym nothing_is)

  at_both : (f : Fraction) → ((end : End) → IsEqual f (adjusted_bound end w q s)) → IsEqual f (effect m (effect_on x y) s)
  at_both f h = subst (IsEqual f) effect_is (both_ways f (probability m (has x) (has y) nothing s)
      (at_most_trans f (adjusted_bound AtLeast w q s) (probability m (has x) (has y) nothing s)
      (equal_at_most f (adjusted_bound AtLeast w q s) (h AtLeast)) (bound AtLeast))
      (at_most_trans (probability m (has x) (has y) nothing s) (adjusted_bound AtMost w q s) f (bound AtMost)
      (equal_at_least f (adjusted_bound AtMost w q s) (h AtMost))))

  -- ---- without a set
  module _ (none : z ≡ 0) where
    none_in : (v : ℕ) → has z v ≡ false
    none_in v = ap (λ k. has k v) none ∙ has-zero v

    z_all : (t : ℕ → ℕ) → z₀ t ≡ c₀ t
    z_all t = same_set t (has z) nothing none_in

    x_here : 1 ≤ x₀ s
    x_here = x_some s within (let a = z_all s in let b = c_some s within in omega (arith, a, b))

    x_alone : w.weight (has 0) (has x) s ≡ x₀ s
    x_alone = same_weight s (has x) (λ v. has x v || has z v) (λ v. sym (or_none (has x v) (has z v) (none_in v)))

    j_alone : w.weight (has 0) (λ v. has y v || has x v) s ≡ j₀ s
    j_alone = same_weight s (λ v. has y v || has x v) (λ v. has x v || (has y v || has z v))
        (λ v. flip (has x v) (has y v) ∙ ap (λ b. has x v || b) (sym (or_none (has y v) (has z v) (none_in v))))
      where
        flip : (a b : Bool) → (b || a) ≡ (a || b)
        flip true true = refl
        flip true false = refl
        flip false true = refl
        flip false false = refl

    alone_supported : not (eqb (w.weight (has 0) (has x) s) 0) ≡ true
    alone_supported = ap (λ k. not (eqb k 0)) x_alone ∙ positive (x₀ s) x_here
      where
        positive : (k : ℕ) → 1 ≤ k → not (eqb k 0) ≡ true
        positive k le = ap not (ne_eqb k 0 (λ e. absurd (omega (arith, le, e))))

    alone_is : (end : End) → IsEqual (over (w.weight (has 0) (λ v. has y v || has x v) s) (w.weight (has 0) (has x) s)) (adjusted_bound end w q s)
    alone_is end =
        subst (IsEqual (over (w.weight (has 0) (λ v. has y v || has x v) s) (w.weight (has 0) (has x) s)))
        (sym (over_none (has z) w.size none_in w.vertices (λ t. mul (share w q t) (adjusted_at end w q t)) s))
        (subst (λ f. IsEqual f (bounded end (c₀ s) (z₀ s) (x₀ s) (j₀ s))) (sym (ap₂ over j_alone x_alone))
        (subst (λ k. IsEqual (over (j₀ s) (x₀ s)) (bounded end (c₀ s) k (x₀ s) (j₀ s))) (sym (z_all s))
        (numbers end (c₀ s) (x₀ s) (j₀ s) (c_some s within) x_here)))
      where
        numbers : (end : End) (c x j : ℕ) → 1 ≤ c → 1 ≤ x → IsEqual (over j x) (bounded end c c x j)
        numbers end c x j p q = at (eqb x 0) refl
          where
            at : (no_x : Bool) → eqb x 0 ≡ no_x → IsEqual (over j x) (bounded_by end c c x j no_x)
            at true e = absurd (let k = eqb-true x 0 e in omega (arith, q, k))
            at false e = record {
              left_bottom = q;
              right_bottom = positive-times c x p q;
              products = (let r : j * (c * x) ≡ (c * j) * x = omega arith in r);
            }

  adjusts : IsEffectWithZeros w (adjustment_formula x y z) m x y s
  adjusts = go (eqb z 0) refl
    where
      go : (b : Bool) → eqb z 0 ≡ b → IsEffectWithZeros w (record { defs = []; main = cond b (prob y 0 x) (adjusted_sum x y z) }) m x y s
      go true e = record {
        supported = alone_supported (eqb-true z 0 e);
        equal = at_both (over (w.weight (has 0) (λ v. has y v || has x v) s) (w.weight (has 0) (has x) s)) (alone_is (eqb-true z 0 e));
      }
      go false e = record {
        supported = sum_supported (λ j t. over 1 1) (λ j t. true);
        equal = at_both (add_over (has z) w.size w.vertices (value_with_zeros w (λ j t. over 1 1) (λ j t. true) factors) s)
            (sum_is (λ j t. over 1 1) (λ j t. true));
      }

pub adjusts_matched : AdjustedBoundsHold → AdmissibleAdjustsMatched
adjusts_matched bounds_hold = λ g ok x y z sets admissible m fit weak used w all match covered s within.
    adjusts bounds_hold g ok x y z sets admissible m fit weak used w all match covered s within

pub adjusts_weakly : AdjustedBoundsHold → AdmissibleAdjustsWeakly
adjusts_weakly bounds_hold = λ g ok x y z sets admissible m fit weak s within.
    adjusts bounds_hold g ok x y z sets admissible m fit weak (λ v. true) (weights_of m) (total m)
    (record {
      vertices = refl;
      sizes = λ k lt e. refl;
      some = total_positive g m fit;
      weights = λ a i t wt. refl;
    }) (λ v i. refl) s within
