-- The formula has the value of the effect among the treated.
use Rattle.std.proofs.Common.{ℕ, ◌*◌, ◌≡◌, ◌<◌, ◌≤◌, Bool, true, false, cond, not, refl, sym, ap, ap₂, ◌∙◌, ◌||◌, ◌&&◌, subst, arith, mul-pos}
use Rattle.std.proofs.Common.{List}
use mathlib.Core.Path.{fun_ext}
use Rattle.mixed_graph.specs.Vocabulary.{has, MixedGraph, IsMixedGraph, union, minus, common, is_empty}
use Rattle.mixed_graph.proofs.Masks.{same_from_has}
use Rattle.mixed_graph.proofs.MaskLaws.{has_join, has_meet, has_minus, has_none, empty_has}
use Rattle.do_rules.specs.Vocabulary.{cut_out}
use Rattle.fractions.specs.Vocabulary.{Fraction, over, IsEqual}
use Rattle.fractions.proofs.FractionLaws.{mul-one}
use Rattle.finite_models.specs.Vocabulary.{sum_over, FiniteModel, Fits, IsAssignment, IsPositiveModel, event_weight}
use Rattle.finite_models.proofs.Bools.{and_first, either, not_both}
use Rattle.finite_models.proofs.Following.{follows_of}
use Rattle.finite_models.proofs.Positive.{positive_weight}
use Rattle.finite_models.proofs.SumLaws.{set_at-other}
use Rattle.finite_models.proofs.Weights.{weight_of-none}
use Rattle.prob_expr.specs.Tree.{Tree, tree, prob, sum}
use Rattle.prob_expr.specs.Vocabulary.{Trees, no_trees, PlainFormula, value, product_value, values_from, add_over}
use Rattle.prob_expr.proofs.Boxes.{IsStable, add_over_whole, assignment_set}
use Rattle.treated_models.specs.Vocabulary.{held, factor_of, joined, weight_of_both, effect_among, IsBefore, prime_of, as_observed, with_primes}
use Rattle.treated_models.proofs.Chain.{first_factor}
use Rattle.treated_models.proofs.Factor.{held_event_is_sum}
use Rattle.treated_models.proofs.Held.{treated_is_held}
use Rattle.treated_models.proofs.Primes.{plain_within, observed_within, prime_behind}
use Rattle.treated_id.specs.Right.{IsTreatedTarget, FormulaIsRight}
use Rattle.treated_id.specs.Sets.{IsConfounded}
use Rattle.do_derivation.specs.Vocabulary.{as_one}
use Rattle.identification_theory.specs.Vocabulary.{sum_if}
use Rattle.treated_id.specs.Terms.{AreNames, with_first, IsFormulaBy}
use Rattle.treated_id.proofs.Ancestors.{ancestors_low, ancestors_parents, ancestors_own, ancestors_more, untouched}
use Rattle.treated_id.proofs.TermWeights.{first_bottom, first_top}
use Rattle.identification_theory.proofs.Orders.{IsOrderFrom, order_of}
use Rattle.treated_id.proofs.Points.{sum_below_names, add_none, sum_observed, event_reads}
use Rattle.treated_id.proofs.Products.{AreNested, part, Leads, terms_lead}

-- one factor has the value of the product of it alone
one_value : (m : FiniteModel) (x : ℕ) (q : ℕ → (ℕ → ℕ) → Fraction) (ts : Trees) (t : ℕ → ℕ)
    → value (with_primes m x) q (as_one ts) t ≡ product_value (with_primes m x) q ts t
one_value m x q no_trees t = refl
one_value m x q (tree e no_trees) t = sym (mul-one (value (with_primes m x) q e t))
one_value m x q (tree e (tree f ts)) t = refl

-- the sum over a set that may be empty
sum_value : (m : FiniteModel) (x : ℕ) (q : ℕ → (ℕ → ℕ) → Fraction) (u : ℕ) (e : Tree) (t : ℕ → ℕ)
    → value (with_primes m x) q (sum_if u e) t ≡ add_over (has u) (with_primes m x).size (with_primes m x).vertices (value (with_primes m x) q e) t
sum_value m x q u e t = go (is_empty u) refl
  where
    go : (b : Bool) → is_empty u ≡ b → value (with_primes m x) q (cond b e (sum u e)) t
        ≡ add_over (has u) (with_primes m x).size (with_primes m x).vertices (value (with_primes m x) q e) t
    go true h = sym (add_none (has u) (with_primes m x).size (with_primes m x).vertices (λ v. empty_has u v h) (value (with_primes m x) q e) t)
    go false h = refl

module _ (g : MixedGraph) (ok : IsMixedGraph g) (x y z : ℕ) (target : IsTreatedTarget g x y z) (clear : IsConfounded g x y z → ⊥) (order : List ℕ)
    (ordered : IsOrderFrom g 0 order) (f : PlainFormula) (r : IsFormulaBy g order x y z f) where
  abbrev e : ℕ
  e = union x z

  abbrev summed : ℕ
  summed = minus r.s (union (union x z) y)

  has_e : (v : ℕ) → has e v ≡ (has x v || has z v)
  has_e v = has_join x z v

  has_all : (v : ℕ) → has (union e y) v ≡ ((has x v || has z v) || has y v)
  has_all v = has_join e y v ∙ ap (λ b. b || has y v) (has_e v)

  e_low : (v : ℕ) → has e v ≡ true → v < g.vertices
  e_low v i = either (has x v) (has z v) (v < g.vertices) (sym (has_e v) ∙ i) (target.x_low v) (target.z_low v)

  left : (p q : Bool) → p ≡ true → (p || q) ≡ true
  left p q h = grind (arith, h)

  right : (p q : Bool) → q ≡ true → (p || q) ≡ true
  right p q h = grind (arith, h)

  x_in_e : (v : ℕ) → has x v ≡ true → has e v ≡ true
  x_in_e v i = has_e v ∙ left (has x v) (has z v) i

  e_in_c : (v : ℕ) → has e v ≡ true → has r.c v ≡ true
  e_in_c v i = ancestors_own g ok r.c (has e) r.are_c v (e_low v i) i

  all_in_s : (v : ℕ) → has (union e y) v ≡ true → has r.s v ≡ true
  all_in_s v i = ancestors_own g ok r.s (has (union e y)) r.are_s v
      (either (has e v) (has y v) (v < g.vertices) (sym (has_join e y v) ∙ i) (e_low v) (target.y_low v)) i

  nested : AreNested g x r.s r.c
  nested = record {
    s_low = ancestors_low g ok r.s (has (union e y)) r.are_s;
    s_parents = ancestors_parents g ok r.s (has (union e y)) r.are_s;
    c_parents = ancestors_parents g ok r.c (has e) r.are_c;
    c_in = ancestors_more g r.c r.s (has e) (has (union e y)) r.are_c r.are_s (λ v i. has_join e y v ∙ left (has e v) (has y v) i);
    x_in = λ v i. e_in_c v (x_in_e v i);
  }

  has_summed : (v : ℕ) → has summed v ≡ (has r.s v && not ((has x v || has z v) || has y v))
  has_summed v = has_minus r.s (union e y) v ∙ ap (λ b. has r.s v && not b) (has_all v)

  summed_off : (v : ℕ) → has e v ≡ true → has summed v ≡ false
  summed_off v i = has_summed v ∙ bools (has r.s v) (has x v || has z v) (has y v) (sym (has_e v) ∙ i)
    where
      bools : (s e y : Bool) → e ≡ true → (s && not (e || y)) ≡ false
      bools s e y h = grind (arith, h)

  module _ (m : FiniteModel) (fit : Fits g m) (positive : IsPositiveModel m) (b : ℕ → ℕ)
      (within : IsAssignment (with_primes m x).vertices (with_primes m x).size b) where
    abbrev q : ℕ → (ℕ → ℕ) → Fraction
    q = λ j s. over 1 1

    abbrev obs : (ℕ → ℕ) → ℕ → ℕ
    obs t = as_observed m.vertices x t

    abbrev all_factor : (ℕ → ℕ) → ℕ
    all_factor t = factor_of (held m (has x) b) (has r.s) (obs t)

    abbrev given_weight : ℕ
    given_weight = event_weight m (has e) (obs b)

    b_within : IsAssignment m.vertices m.size b
    b_within = plain_within m.vertices x m.size b within

    some_given : (t : ℕ → ℕ) → IsAssignment m.vertices m.size (obs t) → 1 ≤ event_weight m (has e) (obs t)
    some_given t o =
        let k = positive_weight g m ok (follows_of g m fit) positive (λ v. false) (has e) (obs t) o in
        let is = weight_of-none m (λ v. false) (has e) (obs t) (λ v. refl) in
        omega (arith, k, is)

    -- the points of the sum: those that differ from b at most where is summed
    record IsPoint (t : ℕ → ℕ) : Type 0 where
      inside : IsAssignment (with_primes m x).vertices (with_primes m x).size t
      same : (k : ℕ) → has summed k ≡ false → t k ≡ b k

    stable : IsStable (with_primes m x).vertices (has summed) (with_primes m x).size IsPoint
    stable t i k il ui lt p = record {
      inside = assignment_set (with_primes m x).vertices (with_primes m x).size t i k lt p.inside;
      same = λ j o. set_at-other t i k j (λ h. not_both (has summed j) (ap (has summed) h ∙ ui) o) ∙ p.same j o;
    }

    prime_off : (v : ℕ) → has summed (prime_of m.vertices x v) ≡ false
    prime_off v = go (has summed (prime_of m.vertices x v)) refl
      where
        go : (i : Bool) → has summed (prime_of m.vertices x v) ≡ i → has summed (prime_of m.vertices x v) ≡ false
        go false h = h
        go true h =
            let l = nested.s_low (prime_of m.vertices x v) (and_first (has r.s (prime_of m.vertices x v)) (not (has (union e y) (prime_of m.vertices x v)))
            (sym (has_minus r.s (union e y) (prime_of m.vertices x v)) ∙ h)) in
            absurd (omega (arith, l, fit.vertices, prime_behind m.vertices x v))

    -- what was observed of x and z is one at all points
    given_same : (t : ℕ → ℕ) → IsPoint t → event_weight m (has e) (obs t) ≡ given_weight
    given_same t p = event_reads m (has e) (obs t) (obs b) (λ v il i. go v i (has x v))
      where
        go : (v : ℕ) → has e v ≡ true → (c : Bool) → cond c (t (prime_of m.vertices x v)) (t v) ≡ cond c (b (prime_of m.vertices x v)) (b v)
        go v i true = p.same (prime_of m.vertices x v) (prime_off v)
        go v i false = p.same v (summed_off v i)

    module _ (t : ℕ → ℕ) (p : IsPoint t) where
      t_within : IsAssignment m.vertices m.size t
      t_within = plain_within m.vertices x m.size t p.inside

      o_within : IsAssignment m.vertices m.size (obs t)
      o_within = observed_within m.vertices x m.size t p.inside

      x_same : (w : ℕ) → has x w ≡ true → t w ≡ b w
      x_same w i = p.same w (summed_off w (x_in_e w i))

      lead : Leads g ok x y z r.s r.c nested r.are_s clear m fit positive b t b_within t_within o_within x_same q 0 r.terms
      lead = terms_lead g ok x y z r.s r.c nested r.are_s clear m fit positive b t b_within t_within o_within x_same q 0 order r.terms
          (λ u w arrow i. absurd (not_both (has 0 w) i (has_none w))) ordered r.are_terms

      first_is : factor_of (held m (has x) b) (has (part r.s r.c 0)) (obs t) ≡ event_weight m (has r.c) (obs t)
      first_is =
          ap (λ k. factor_of (held m (has x) b) (has k) (obs t)) (same_from_has (part r.s r.c 0) r.c (λ w. has_join r.c (common r.s 0) w
          ∙ ap (λ i. has r.c w || i) (has_meet r.s 0 w ∙ ap (λ i. has r.s w && i) (has_none w)) ∙ bools (has r.c w) (has r.s w)))
          ∙ first_factor g ok m fit (has x) (has r.c) nested.c_parents nested.x_in (untouched g x z r.c target.before r.are_c) b (obs t)
        where
          bools : (c s : Bool) → (c || (s && false)) ≡ c
          bools c s = grind arith

      given_names : AreNames m.vertices x x e r.given
      given_names = subst (λ n. AreNames n x x e r.given) (sym fit.vertices) r.are_given

      x_low : (w : ℕ) → has x w ≡ true → w < m.vertices
      x_low w i = rw fit.vertices (target.x_low w i)

      c_low : (w : ℕ) → has r.c w ≡ true → w < m.vertices
      c_low w i = rw fit.vertices (nested.s_low w (nested.c_in w i))

      -- with the first term the product is the factor of all over what is given
      point_value : IsEqual (value (with_primes m x) q (as_one (with_first (minus r.c e) r.given r.terms)) t) (over (all_factor t) given_weight)
      point_value = subst (λ v. IsEqual v (over (all_factor t) given_weight)) (sym (one_value m x q (with_first (minus r.c e) r.given r.terms) t))
          (go (is_empty (minus r.c e)) refl)
        where
          rest_value : Fraction
          rest_value = product_value (with_primes m x) q r.terms t

          start : event_weight m (has r.c) (obs t) * rest_value.top ≡ all_factor t * rest_value.bottom
          start = ap (λ k. k * rest_value.top) (sym first_is) ∙ lead.products

          some : 1 ≤ given_weight
          some = let k = some_given t o_within in let h = given_same t p in omega (arith, k, h)

          whole : is_empty (minus r.c e) ≡ true → event_weight m (has r.c) (obs t) ≡ given_weight
          whole none = ap (λ k. event_weight m (has k) (obs t)) (same_from_has r.c e (λ w. bools (has r.c w) (has e w) (e_in_c w)
              (sym (has_minus r.c e w) ∙ empty_has (minus r.c e) w none))) ∙ given_same t p
            where
              bools : (c e : Bool) → (e ≡ true → c ≡ true) → (c && not e) ≡ false → c ≡ e
              bools c e h k = grind (arith, h, k)

          scaled : (c pt gw fs pb : ℕ) → c * pt ≡ fs * pb → (c * pt) * gw ≡ fs * (gw * pb)
          scaled c pt gw fs pb h = ap (λ k. k * gw) h ∙ (let k : (fs * pb) * gw ≡ fs * (gw * pb) = omega arith in k)

          swapped : (pt gw fs pb : ℕ) → gw * pt ≡ fs * pb → pt * gw ≡ fs * pb
          swapped pt gw fs pb h = (let k : pt * gw ≡ gw * pt = omega arith in k) ∙ h

          go : (i : Bool) → is_empty (minus r.c e) ≡ i
              → IsEqual (product_value (with_primes m x) q (cond i r.terms (tree (prob (minus r.c e) 0 r.given) r.terms)) t) (over (all_factor t) given_weight)
          go true none = record {
            left_bottom = lead.bottom;
            right_bottom = some;
            products = swapped rest_value.top given_weight (all_factor t) rest_value.bottom (ap (λ k. k * rest_value.top) (sym (whole none)) ∙ start);
          }
          go false h = record {
            left_bottom = mul-pos (rw (bottom_is) some) lead.bottom;
            right_bottom = some;
            products = ap₂ (λ k l. (k * rest_value.top) * l) top_is refl
                ∙ scaled (event_weight m (has r.c) (obs t)) rest_value.top given_weight (all_factor t) rest_value.bottom start
                ∙ ap (λ k. all_factor t * (k * rest_value.bottom)) (sym bottom_is);
          }
            where
              bottom_is : (with_primes m x).weight (has 0) (has r.given) t ≡ given_weight
              bottom_is = first_bottom g ok m fit x x_low t t_within r.c e r.given c_low e_in_c x_in_e given_names ∙ given_same t p

              top_is : (with_primes m x).weight (has 0) (λ k. has (minus r.c e) k || has r.given k) t ≡ event_weight m (has r.c) (obs t)
              top_is = first_top g ok m fit x x_low t t_within r.c e r.given c_low e_in_c x_in_e given_names

    -- summed, the factors are the weight of y under do(x) beside x and z as observed
    before : IsBefore g (has x) (λ v. has x v || has z v)
    before = record {
      past = has r.c;
      holds = λ v i. e_in_c v (has_e v ∙ i);
      closed = nested.c_parents;
      untouched = untouched g x z r.c target.before r.are_c;
    }

    y_off_x : (v : ℕ) → has y v ≡ true → has x v ≡ false
    y_off_x v i = go (has x v) refl
      where
        go : (c : Bool) → has x v ≡ c → has x v ≡ false
        go false h = h
        go true h = absurd (not_both (has y v) i (target.x_off_y v h))

    y_off_z : (v : ℕ) → has y v ≡ true → has z v ≡ false
    y_off_z v i = go (has z v) refl
      where
        go : (c : Bool) → has z v ≡ c → has z v ≡ false
        go false h = h
        go true h = absurd (not_both (has y v) i (target.z_off_y v h))

    whole_set : (v : ℕ) → ((has y v || (has x v || has z v)) || has summed v) ≡ has r.s v
    whole_set v = ap (λ k. (has y v || (has x v || has z v)) || k) (has_summed v)
        ∙ bools (has y v) (has x v || has z v) (has r.s v)
        (λ i. all_in_s v (has_all v ∙ right (has x v || has z v) (has y v) i)) (λ i. all_in_s v (has_all v ∙ left (has x v || has z v) (has y v) i))
      where
        bools : (y e s : Bool) → (y ≡ true → s ≡ true) → (e ≡ true → s ≡ true) → ((y || e) || (s && not (e || y))) ≡ s
        bools y e s h k = grind (arith, h, k)

    apart : (v : ℕ) → (has y v || (has x v || has z v)) ≡ true → has summed v ≡ true → ⊥
    apart v i j = bools (has y v) (has x v || has z v) (has r.s v) i (sym (has_summed v) ∙ j)
      where
        bools : (y e s : Bool) → (y || e) ≡ true → (s && not (e || y)) ≡ true → ⊥
        bools y e s h k = absurd (grind (arith, h, k))

    closed : (p v : ℕ) → (cut_out g (has x)).arrow p v ≡ true → ((has y v || (has x v || has z v)) || has summed v) ≡ true
        → ((has y p || (has x p || has z p)) || has summed p) ≡ true
    closed p v arrow i = whole_set p ∙ nested.s_parents p v (and_first (g.arrow p v) (not (has x p)) arrow) (sym (whole_set v) ∙ i)

    observed_joined : (v : ℕ) → joined (λ v. has x v || has z v) b (obs b) v ≡ obs b v
    observed_joined v = go (has x v) (has z v)
      where
        go : (i j : Bool) → cond (i || j) (cond i (b (prime_of m.vertices x v)) (b v)) (b v) ≡ cond i (b (prime_of m.vertices x v)) (b v)
        go true j = refl
        go false true = refl
        go false false = refl

    summed_low : (i : ℕ) → m.vertices ≤ i → has summed i ≡ false
    summed_low i le = go (has summed i) refl
      where
        go : (c : Bool) → has summed i ≡ c → has summed i ≡ false
        go false h = h
        go true h =
            let l = nested.s_low i (and_first (has r.s i) (not (has (union e y) i)) (sym (has_minus r.s (union e y) i) ∙ h)) in
            absurd (omega (arith, l, le, fit.vertices))

    sum_is : sum_over (has summed) (with_primes m x).size (with_primes m x).vertices all_factor b
        ≡ weight_of_both m (has x) (has y) (λ v. has x v || has z v) b (obs b)
    sum_is =
        sum_below_names (has summed) (with_primes m x).size m.vertices (with_primes m x).vertices (omega arith) summed_low all_factor b
        ∙ sum_observed m.vertices x (has summed) m.size (λ i u. x_off i u (has x i) refl) m.vertices (omega arith)
        (factor_of (held m (has x) b) (has r.s)) b
        ∙ ap₂ (λ k l. sum_over (has summed) m.size m.vertices (factor_of (held m (has x) b) k) l) (sym (fun_ext whole_set)) (sym (fun_ext observed_joined))
        ∙ sym (held_event_is_sum g ok m fit (has x) (λ v. has y v || (has x v || has z v)) (has summed) apart closed b
        (joined (λ v. has x v || has z v) b (obs b)) b_within)
        ∙ sym (treated_is_held g ok m fit (has x) (has y) (λ v. has x v || has z v) before y_off_x
        (λ v i. both_off (has x v) (has z v) (y_off_x v i) (y_off_z v i)) b (obs b) b_within)
      where
        both_off : (p q : Bool) → p ≡ false → q ≡ false → (p || q) ≡ false
        both_off p q h k = grind (arith, h, k)

        x_off : (i : ℕ) → has summed i ≡ true → (c : Bool) → has x i ≡ c → has x i ≡ false
        x_off i u false h = h
        x_off i u true h = absurd (not_both (has summed i) u (summed_off i (x_in_e i h)))

    base : IsPoint b
    base = record { inside = within; same = λ k o. refl }

    main_value : IsEqual (value (with_primes m x) q (sum_if summed (as_one (with_first (minus r.c e) r.given r.terms))) b)
        (effect_among m (has x) (has y) (λ v. has x v || has z v) b (obs b))
    main_value =
        subst (λ k. IsEqual k (effect_among m (has x) (has y) (λ v. has x v || has z v) b (obs b)))
        (sym (sum_value m x q summed (as_one (with_first (minus r.c e) r.given r.terms)) b))
        (subst (λ k. IsEqual (add_over (has summed) (with_primes m x).size (with_primes m x).vertices
        (value (with_primes m x) q (as_one (with_first (minus r.c e) r.given r.terms))) b) k)
        (ap₂ over sum_is (ap (λ k. event_weight m k (obs b)) (fun_ext has_e)))
        (add_over_whole (has summed) (with_primes m x).size IsPoint (with_primes m x).vertices given_weight
        (value (with_primes m x) q (as_one (with_first (minus r.c e) r.given r.terms))) all_factor b
        (some_given b (observed_within m.vertices x m.size b within)) stable base point_value))

pub formula_is_right : FormulaIsRight
formula_is_right g ok x y z target clear f i m fit positive s within =
    subst (λ k. IsEqual k (effect_among m (has x) (has y) (λ v. has x v || has z v) s (as_observed m.vertices x s)))
    (ap₂ (λ d k. value (with_primes m x) (values_from (with_primes m x) (λ j s. over 1 1) 0 d) k s) (sym i.by.defs) (sym i.by.main))
    (main_value g ok x y z target clear i.order (order_of g i.order i.is_order) f i.by m fit positive s within)
