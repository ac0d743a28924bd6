-- The formula in parts has the value of the effect among the treated.
use Rattle.std.proofs.Common.{ℕ, ◌*◌, ◌^◌, ◌≡◌, ◌<◌, ◌≤◌, Bool, true, false, cond, not, refl, sym, ap, ap₂, ◌∙◌, ◌||◌, ◌&&◌, subst, arith, List, [], ◌∷◌, length, suc}
use Rattle.std.specs.Prelude.{All}
use native.Mathlib.Nat.{pow-zero, pow-suc}
use mathlib.Core.Path.{fun_ext}
use Rattle.std.proofs.lemmas.Bool.{false_from_ne_true}
use Rattle.mixed_graph.specs.Vocabulary.{has, MixedGraph, IsMixedGraph, IsAncestor, union, minus, common}
use Rattle.mixed_graph.proofs.Masks.{has-zero}
use Rattle.mixed_graph.proofs.MaskLaws.{has_join, has_meet, has_minus}
use Rattle.fractions.specs.Vocabulary.{over, div, IsEqual}
use Rattle.fractions.proofs.FractionLaws.{equal_refl, equal_trans, equal_scaled, mul_equal, div_equal}
use Rattle.finite_models.specs.Vocabulary.{sum_over, FiniteModel, Fits, IsAssignment, IsPositiveModel, event_weight, weight_of, total}
use Rattle.finite_models.proofs.Bools.{and_first, either, not_both, same_truth}
use Rattle.finite_models.proofs.Following.{follows_of}
use Rattle.finite_models.proofs.Positive.{positive_weight}
use Rattle.finite_models.proofs.SumLaws.{set_at-other}
use Rattle.finite_models.proofs.Tested.{stable, tested}
use Rattle.finite_models.proofs.Weights.{weight_of-none}
use Rattle.hedge.specs.Vocabulary.{IsLinked, IsMaximalJoined, IsPartition, IsSetOf, at, by}
use Rattle.hedge.proofs.Collecting.{parts_from, maximal_from}
use Rattle.do_rules.specs.Vocabulary.{cut_out}
use Rattle.prob_expr.specs.Vocabulary.{weights_of, value_of, add_over, term_value}
use Rattle.prob_expr.proofs.Boxes.{IsStable, add_over_whole, assignment_set}
use Rattle.identification_theory.proofs.Groups.{are_parts}
use Rattle.treated_models.specs.Vocabulary.{is_in, AreFree, IsBefore, joined, read_at, weight_of_both}
use Rattle.treated_models.specs.NoFormula.{among_at}
use Rattle.treated_models.specs.Treated.{weights_at}
use Rattle.treated_models.proofs.Product.{treated_is_product}
use Rattle.treated_id.specs.Vocabulary.{IsConfounded, IsTreatedTarget}
use Rattle.treated_id.proofs.Ancestors.{ancestors_low, ancestors_parents, ancestors_own}
use Rattle.natural_id.specs.Vocabulary.{PlainPart, parts_value, districts_of}
use Rattle.natural_id.proofs.Districts.{one_of, in_one, unjoined}
use Rattle.natural_id.proofs.Values.{none_is_total, some_worlds, or_none, part_is, powers, point_within}
use Rattle.treated_parts.specs.Parts.{treated_value, AreEachTreated, AreTreatedParts, TreatedPartsAreRight}

-- ---- districts without a treatment and a child of it
wider : (g : MixedGraph) (a b s : ℕ → Bool) (u : ℕ) → ((w : ℕ) → a w ≡ true → b w ≡ true) → IsLinked g a s u → IsLinked g b s u
wider g a b s u more (at e) = at e
wider g a b s u more (by {v = w} i c r) = by (more u i) c (wider g a b s w more r)

free_all : (g : MixedGraph) (x y z a : ℕ) → IsSetOf a (IsAncestor g (has (union (union x z) y))) → (IsConfounded g x y z → ⊥) → (ts : List ℕ)
    → All (IsMaximalJoined g a) ts → AreFree g (has x) ts
free_all g x y z a are clear [] all = tt
free_all g x y z a are clear (d ∷ ts) all = (
  λ p v arrow i e. false_from_ne_true (has d p) (λ own. clear (record {
    ancestors = a;
    are = are;
    treatment = p;
    child = v;
    treated = e;
    arrow = arrow;
    linked = let whole = all 0 0 (omega arith) in wider g (has d) (has a) _ v whole.inside (whole.joined v p i own);
  })),
  free_all g x y z a are clear ts (λ i k l. all (suc i) k (omega (arith, l))),
)

-- ---- what was observed
-- it can't be that no set shows that x and z don't come after x: their ancestors do
before_tested : (g : MixedGraph) → IsMixedGraph g → (x y z : ℕ) → IsTreatedTarget g x y z → (IsBefore g (has x) (λ v. has x v || has z v) → ⊥) → ⊥
before_tested g ok x y z target none = tested (IsAncestor g (has (union x z))) g.vertices (λ t. none (record {
  past = t.test;
  holds = λ v e.
      let low = either (has x v) (has z v) (v < g.vertices) e (target.x_low v) (target.z_low v) in
      t.complete v low (record { vertex = low; path = []; end = v; leads = refl; inside = has_join x z v ∙ e });
  closed = λ p v arrow e.
      let k = t.sound v e in
      let low = ok.tail_below p v arrow in
      t.complete p low (record { vertex = low; path = v ∷ k.path; end = k.end; leads = (arrow, k.leads); inside = k.inside });
  untouched = λ p v arrow e. false_from_ne_true (has x p) (λ h.
      let k = t.sound v e in
      target.before k.end k.inside (record { start = p; next = v; path = k.path; inside = h; leads = (arrow, k.leads) }));
}))

module _ (g : MixedGraph) (ok : IsMixedGraph g) (m : FiniteModel) (fit : Fits g m) (positive : IsPositiveModel m) (x : ℕ) (s t : ℕ → ℕ)
    (hs : IsAssignment m.vertices m.size s) (ht : IsAssignment m.vertices m.size t) where
  abbrev seen : ℕ → ℕ
  seen = joined (has x) s t

  seen_within : IsAssignment m.vertices m.size seen
  seen_within v il = go (has x v)
    where
      go : (b : Bool) → cond b (t v) (s v) < m.size v
      go true = ht v il
      go false = hs v il

  -- the points of the sum: x as observed
  record IsPoint (c : ℕ → ℕ) : Type 0 where
    inside : IsAssignment m.vertices m.size c
    same : (v : ℕ) → has x v ≡ true → c v ≡ t v

  base : IsPoint seen
  base = record { inside = seen_within; same = λ v e. rw e refl }

  -- where a part is read
  abbrev point : PlainPart → (ℕ → ℕ) → ℕ → ℕ
  point p c v = cond (has x v) (cond (has p.second v) (t v) (s v)) (c v)

  point_is : (p : PlainPart) → p.second ≡ common x p.district → (c : ℕ → ℕ) → IsPoint c → point p c ≡ read_at (has x) p.district s c
  point_is p reads c k = fun_ext (λ v. go v (has x v) (has p.district v) refl refl)
    where
      second : (v : ℕ) → has p.second v ≡ (has x v && has p.district v)
      second v = ap (λ n. has n v) reads ∙ has_meet x p.district v

      go : (v : ℕ) (a b : Bool) → has x v ≡ a → has p.district v ≡ b
          → cond (has x v) (cond (has p.second v) (t v) (s v)) (c v) ≡ cond (has x v && not (has p.district v)) (s v) (c v)
      go v true true e i = rw (second v, e, i) (sym (k.same v e))
      go v true false e i = rw (second v, e, i) refl
      go v false b e i = rw e refl

  -- the product of the parts
  product_is : (ps : List PlainPart) → AreEachTreated g x ps → (c : ℕ → ℕ) → IsPoint c
      → IsEqual (parts_value m x ps s t c) (over (weights_at m (has x) (districts_of ps) s c) (total m ^ length (districts_of ps)))
  product_is [] right c k = subst (λ n. IsEqual (over 1 1) (over 1 n)) (sym (pow-zero (total m))) (equal_refl (over 1 1) (omega arith))
  product_is (p ∷ ps) right c k =
      subst (λ n. IsEqual (parts_value m x (p ∷ ps) s t c) (over (weights_at m (has x) (districts_of (p ∷ ps)) s c) n))
      (flipped (total m) (total m ^ length (districts_of ps)) ∙ sym (pow-suc (total m) (length (districts_of ps))))
      (mul_equal (value_of (weights_of m) p.formula (point p c)) (over first (total m)) (parts_value m x ps s t c)
      (over (weights_at m (has x) (districts_of ps) s c) (total m ^ length (districts_of ps)))
      (subst (λ r. IsEqual (value_of (weights_of m) p.formula (point p c)) (over (weight_of m (λ v. not (has p.district v)) (has p.district) r) (total m)))
      (point_is p right.0.reads c k)
      (part_is g ok m fit positive p.district p.formula right.0.formula (point p c)
      (point_within g ok m fit positive x 0 s t hs ht p c k.inside)))
      (product_is ps right.1 c k))
    where
      first : ℕ
      first = weight_of m (λ v. not (has p.district v)) (has p.district) (read_at (has x) p.district s c)

      flipped : (a b : ℕ) → a * b ≡ b * a
      flipped a b = omega arith

  module _ (y z a : ℕ) (target : IsTreatedTarget g x y z) (clear : IsConfounded g x y z → ⊥) (ps : List PlainPart)
      (parts : AreTreatedParts g x y z a ps) where
    abbrev given : ℕ → Bool
    given v = has x v || has z v

    abbrev rest : ℕ
    rest = minus a (union (union x z) y)

    has_asked : (v : ℕ) → has (union (union x z) y) v ≡ ((has x v || has z v) || has y v)
    has_asked v = has_join (union x z) y v ∙ ap (λ b. b || has y v) (has_join x z v)

    has_rest : (v : ℕ) → has rest v ≡ (has a v && not ((has x v || has z v) || has y v))
    has_rest v = has_minus a (union (union x z) y) v ∙ ap (λ b. has a v && not b) (has_asked v)

    y_off_x : (v : ℕ) → has y v ≡ true → has x v ≡ false
    y_off_x v i = false_from_ne_true (has x v) (λ h. not_both (has y v) i (target.x_off_y v h))

    y_off_given : (v : ℕ) → has y v ≡ true → given v ≡ false
    y_off_given v i = false_from_ne_true (given v)
        (λ h. either (has x v) (has z v) ⊥ h (λ e. not_both (has y v) i (target.x_off_y v e)) (λ e. not_both (has y v) i (target.z_off_y v e)))

    asked_in : (v : ℕ) → ((has x v || has z v) || has y v) ≡ true → has a v ≡ true
    asked_in v e = ancestors_own g ok a (has (union (union x z) y)) parts.ancestors v
        (either (given v) (has y v) (v < g.vertices) e (λ h. either (has x v) (has z v) (v < g.vertices) h (target.x_low v) (target.z_low v)) (target.y_low v))
        (has_asked v ∙ e)

    whole : (v : ℕ) → ((has y v || (has x v || has z v)) || has rest v) ≡ has a v
    whole v = ap (λ k. (has y v || (has x v || has z v)) || k) (has_rest v)
        ∙ bools (has y v) (has x v || has z v) (has a v) (asked_in v)
      where
        bools : (y e s : Bool) → ((e || y) ≡ true → s ≡ true) → ((y || e) || (s && not (e || y))) ≡ s
        bools y e s h = grind (arith, h)

    apart : (v : ℕ) → (has y v || (has x v || has z v)) ≡ true → has rest v ≡ true → ⊥
    apart v i j = bools (has y v) (has x v || has z v) (has a v) i (sym (has_rest v) ∙ j)
      where
        bools : (y e s : Bool) → (y || e) ≡ true → (s && not (e || y)) ≡ true → ⊥
        bools y e s h k = absurd (grind (arith, h, k))

    closed : (p v : ℕ) → (cut_out g (has x)).arrow p v ≡ true → ((has y v || (has x v || has z v)) || has rest v) ≡ true
        → ((has y p || (has x p || has z p)) || has rest p) ≡ true
    closed p v arrow i = whole p ∙ ancestors_parents g ok a (has (union (union x z) y)) parts.ancestors p v (and_first (g.arrow p v) (not (has x p)) arrow)
        (sym (whole v) ∙ i)

    partition : IsPartition a (districts_of ps)
    partition = parts_from g ok a (districts_of ps) (ancestors_low g ok a (has (union (union x z) y)) parts.ancestors) parts.districts

    are : (v : ℕ) → is_in (districts_of ps) v ≡ ((has y v || (has x v || has z v)) || has rest v)
    are v = same_truth (is_in (districts_of ps) v) (has a v) (λ e. partition.inside v (one_of (districts_of ps) v e))
        (λ e. in_one (districts_of ps) v (partition.cover v e)) ∙ sym (whole v)

    -- what was observed of x and z is as it was
    seen_same : joined given s seen ≡ seen
    seen_same = fun_ext (λ v. go v (has x v) (has z v))
      where
        go : (v : ℕ) (i j : Bool) → cond (i || j) (cond i (t v) (s v)) (s v) ≡ cond i (t v) (s v)
        go v true j = refl
        go v false true = refl
        go v false false = refl

    abbrev bottom : ℕ
    bottom = total m ^ length (districts_of ps)

    abbrev weight : ℕ
    weight = weight_of_both m (has x) (has y) given s seen

    abbrev summed : ℕ
    summed = sum_over (has rest) m.size m.vertices (λ c. weights_at m (has x) (districts_of ps) s c) seen

    weight_is : weight * bottom ≡ total m * summed
    weight_is = stable (weight * bottom) (total m * summed) (λ differ. before_tested g ok x y z target (λ before. differ
        (treated_is_product g ok m fit (has x) (has y) given (has rest) before y_off_x y_off_given apart closed (districts_of ps) are
        (unjoined g a (districts_of ps) (are_parts g ok a 0 parts.districts.order (districts_of ps) parts.districts.districts) partition.apart partition.inside)
        (free_all g x y z a parts.ancestors clear (districts_of ps) (maximal_from g ok a (districts_of ps) parts.districts)) s seen hs seen_within
        ∙ ap (λ b. total m * sum_over (has rest) m.size m.vertices (λ c. weights_at m (has x) (districts_of ps) s c) b) seen_same)))

    kept : IsStable m.vertices (has rest) m.size IsPoint
    kept c i n il ui lt p = record {
      inside = assignment_set m.vertices m.size c i n lt p.inside;
      same = λ v e. set_at-other c i n v (λ h. apart v (or_right (has y v) (has x v) (has z v) e) (ap (has rest) h ∙ ui)) ∙ p.same v e;
    }
      where
        or_right : (y x z : Bool) → x ≡ true → (y || (x || z)) ≡ true
        or_right y x z h = grind (arith, h)

    some : 1 ≤ bottom
    some = powers g ok m fit positive x 0 s t hs ht (length (districts_of ps)) (some_worlds g ok m fit positive s hs)

    sum_is : IsEqual (add_over (has rest) m.size m.vertices (parts_value m x ps s t) seen) (over weight (total m))
    sum_is = equal_trans (add_over (has rest) m.size m.vertices (parts_value m x ps s t) seen) (over summed bottom) (over weight (total m))
        (add_over_whole (has rest) m.size IsPoint m.vertices bottom (parts_value m x ps s t) (λ c. weights_at m (has x) (districts_of ps) s c) seen some
        kept base (λ c k. product_is ps parts.right c k))
        (record {
          left_bottom = some;
          right_bottom = some_worlds g ok m fit positive s hs;
          products = (let e : summed * total m ≡ total m * summed = omega arith in e) ∙ sym weight_is;
        })

    abbrev share : ℕ
    share = event_weight m given seen

    given_is : term_value (weights_of m) (union x z) 0 0 seen ≡ over share (total m)
    given_is = ap₂ over
        (ap (λ e. weight_of m (has 0) e seen) (or_none g ok m fit positive (union x z))
        ∙ weight_of-none m (has 0) (has (union x z)) seen (λ v. has-zero v)
        ∙ ap (λ e. event_weight m e seen) (fun_ext (λ v. has_join x z v)))
        (none_is_total g ok m fit positive (has 0) seen)

    some_share : 1 ≤ share
    some_share = let k = positive_weight g m ok (follows_of g m fit) positive (λ v. false) given seen seen_within in
        let e = weight_of-none m (λ v. false) given seen (λ v. refl) in omega (arith, k, e)

    pub value_is : IsEqual (treated_value m x z rest ps s t) (among_at m x y z s t)
    value_is =
        let worlds : 1 ≤ total m = some_worlds g ok m fit positive s hs in
        equal_trans (treated_value m x z rest ps s t) (div (over weight (total m)) (over share (total m))) (among_at m x y z s t)
        (subst (λ f. IsEqual (div (add_over (has rest) m.size m.vertices (parts_value m x ps s t) seen) f)
        (div (over weight (total m)) (over share (total m)))) (sym given_is)
        (div_equal (add_over (has rest) m.size m.vertices (parts_value m x ps s t) seen) (over weight (total m)) (over share (total m)) (over share (total m))
        some_share sum_is (equal_refl (over share (total m)) worlds)))
        (subst (λ n. IsEqual (over n (total m * share)) (over weight share)) (let e : total m * weight ≡ weight * total m = omega arith in e)
        (equal_scaled (total m) weight share worlds some_share))

pub treated_parts_are_right : TreatedPartsAreRight
treated_parts_are_right g ok x y z a target clear ps parts m fit positive s t hs ht = value_is g ok m fit positive x s t hs ht y z a target clear ps parts
