-- The product of the terms is the factor of all ancestors over that of the first ones.
use Rattle.std.proofs.Common.{ℕ, ◌*◌, ◌≡◌, ◌<◌, ◌≤◌, Bool, true, false, eqb, not, refl, sym, ap, ap₂, ◌∙◌, ◌||◌, ◌&&◌, subst, arith, mul-pos}
use Rattle.std.proofs.Common.{List, [], ◌∷◌, inl, inr, ◌⊎◌}
use Rattle.std.proofs.lemmas.Bool.{eqb-true, eq-eqb}
use mathlib.Core.Path.{fun_ext}
use Rattle.mixed_graph.specs.Vocabulary.{has, MixedGraph, IsMixedGraph, union, minus, one, common}
use Rattle.mixed_graph.proofs.Masks.{same_from_has}
use Rattle.mixed_graph.proofs.MaskLaws.{has_join, has_meet, has_minus, has_one}
use Rattle.hedge.specs.Vocabulary.{IsLinked, at, by}
use Rattle.hedge.proofs.Parts.{link_in, district_maximal}
use Rattle.finite_models.specs.Vocabulary.{FiniteModel, Fits, IsAssignment, IsPositiveModel, event_weight}
use Rattle.finite_models.proofs.Bools.{and_first, and_second, either, not_both}
use Rattle.finite_models.proofs.Following.{follows_of}
use Rattle.finite_models.proofs.Positive.{positive_weight}
use Rattle.finite_models.proofs.Weights.{weight_of-none}
use Rattle.fractions.specs.Vocabulary.{Fraction}
use Rattle.prob_expr.specs.Tree.{tree, prob}
use Rattle.prob_expr.specs.Vocabulary.{Trees, no_trees, product_value}
use Rattle.treated_models.specs.Vocabulary.{held, factor_of, without, with_one, HasParents, IsLast, IsAround, IsFree, read_near, as_observed, with_primes}
use Rattle.treated_models.proofs.Chain.{next_factor, read_within}
use Rattle.treated_id.specs.Sets.{AreAncestors, IsConfounded}
use Rattle.treated_id.specs.Terms.{AreNames, IsTerm, AreTerms}
use Rattle.treated_id.specs.Terms.AreTerms.{none, skip, take}
use Rattle.treated_id.proofs.TermWeights.{bottom_is, top_is}
use Rattle.identification_theory.proofs.Orders.{IsOrderFrom}
use Rattle.identification_theory.proofs.Sets.{all-is}

one_more : (fp e₁ pt fs e₀ pb fa : ℕ) → fa * e₀ ≡ e₁ * fp → fa * pt ≡ fs * pb → fp * (e₁ * pt) ≡ fs * (e₀ * pb)
one_more fp e₁ pt fs e₀ pb fa h k =
    (let q : fp * (e₁ * pt) ≡ (e₁ * fp) * pt = omega arith in q) ∙ ap (λ i. i * pt) (sym h)
    ∙ (let q : (fa * e₀) * pt ≡ e₀ * (fa * pt) = omega arith in q) ∙ ap (λ i. e₀ * i) k
    ∙ (let q : e₀ * (fs * pb) ≡ fs * (e₀ * pb) = omega arith in q)

-- what is linked inside a set is so inside a larger one
linked_in_more : (g : MixedGraph) (a b t : ℕ → Bool) (u : ℕ) → ((w : ℕ) → a w ≡ true → b w ≡ true) → IsLinked g a t u → IsLinked g b t u
linked_in_more g a b t u more (at i) = at i
linked_in_more g a b t u more (by {v = w} i edge r) = by (more u i) edge (linked_in_more g a b t w more r)

-- what is known of the two sets of ancestors
pub record AreNested (g : MixedGraph) (x s c : ℕ) : Type 0 where
  pub s_low : (v : ℕ) → has s v ≡ true → v < g.vertices
  pub s_parents : HasParents g (has s)
  pub c_parents : HasParents g (has c)
  pub c_in : (v : ℕ) → has c v ≡ true → has s v ≡ true
  pub x_in : (v : ℕ) → has x v ≡ true → has c v ≡ true

-- with each vertex its parents come before
abbrev pub IsEarly : MixedGraph → ℕ → Type 0
IsEarly g p = HasParents g (has p)

-- c and what comes before of s
abbrev pub part : (s c p : ℕ) → ℕ
part s c p = union c (common s p)

has_part : (s c p w : ℕ) → has (part s c p) w ≡ (has c w || (has s w && has p w))
has_part s c p w = has_join c (common s p) w ∙ ap (λ b. has c w || b) (has_meet s p w)

has_next : (p v w : ℕ) → has (union p (one v)) w ≡ (has p w || eqb w v)
has_next p v w = has_join p (one v) w ∙ ap (λ b. has p w || b) (has_one v w)

module _ (g : MixedGraph) (ok : IsMixedGraph g) (x y z s c : ℕ) (nested : AreNested g x s c) where
  part_parents : (p : ℕ) → IsEarly g p → HasParents g (has (part s c p))
  part_parents p early u w arrow e = has_part s c p u ∙ go (has c w) (has s w && has p w) refl refl (sym (has_part s c p w) ∙ e)
    where
      go : (i j : Bool) → has c w ≡ i → (has s w && has p w) ≡ j → (i || j) ≡ true → (has c u || (has s u && has p u)) ≡ true
      go true j h k q = let a = nested.c_parents u w arrow h in rw a refl
      go false true h k q =
          let a : has s u ≡ true = nested.s_parents u w arrow (and_first (has s w) (has p w) k) in
          let b : has p u ≡ true = early u w arrow (and_second (has s w) (has p w) k) in
          rw (a, b) (always (has c u))
        where
          always : (b : Bool) → (b || true) ≡ true
          always b = grind arith
      go false false h k q = absurd (grind (arith, q))

  next_early : (p v : ℕ) → IsEarly g p → ((u : ℕ) → g.arrow u v ≡ true → has p u ≡ true) → IsEarly g (union p (one v))
  next_early p v early parents u w arrow e = has_next p v u ∙ left (has p u) (eqb u v)
      (either (has p w) (eqb w v) (has p u ≡ true) (sym (has_next p v w) ∙ e) (early u w arrow)
      (λ q. parents u (ap (g.arrow u) (sym (eqb-true w v q)) ∙ arrow)))
    where
      left : (p q : Bool) → p ≡ true → (p || q) ≡ true
      left p q h = grind (arith, h)

  module _ (p v given : ℕ) (early : IsEarly g p) (vl : v < g.vertices) (new : has p v ≡ false) (parents : (u : ℕ) → g.arrow u v ≡ true → has p u ≡ true)
      (v_in : has (minus s c) v ≡ true) (term : IsTerm g x (part s c (union p (one v))) v given) where
    abbrev a : ℕ
    a = part s c (union p (one v))

    in_s : has s v ≡ true
    in_s = and_first (has s v) (not (has c v)) (sym (has_minus s c v) ∙ v_in)

    off_c : has c v ≡ false
    off_c = off (has c v) (and_second (has s v) (not (has c v)) (sym (has_minus s c v) ∙ v_in))
      where
        off : (b : Bool) → not b ≡ true → b ≡ false
        off b h = grind (arith, h)

    a_own : has a v ≡ true
    a_own = has_part s c (union p (one v)) v
        ∙ (let n : has (union p (one v)) v ≡ true = has_next p v v ∙ right (has p v) (eqb v v) (eq-eqb v v refl) in rw (in_s, n) (right (has c v) true refl))
      where
        right : (i j : Bool) → j ≡ true → (i || j) ≡ true
        right i j h = grind (arith, h)

    a_in_s : (w : ℕ) → has a w ≡ true → has s w ≡ true
    a_in_s w e = either (has c w) (has s w && has (union p (one v)) w) (has s w ≡ true) (sym (has_part s c (union p (one v)) w) ∙ e) (nested.c_in w)
        (and_first (has s w) (has (union p (one v)) w))

    childless : (w : ℕ) → g.arrow v w ≡ true → has a w ≡ true → ⊥
    childless w arrow e = either (has c w) (has s w && has (union p (one v)) w) ⊥ (sym (has_part s c (union p (one v)) w) ∙ e)
        (λ i. not_both (has c v) (nested.c_parents v w arrow i) off_c)
        (λ i. either (has p w) (eqb w v) ⊥ (sym (has_next p v w) ∙ and_second (has s w) (has (union p (one v)) w) i)
        (λ j. not_both (has p v) (early v w arrow j) new)
        (λ j. not_both (has p v) (parents v (ap (g.arrow v) (sym (eqb-true w v j)) ∙ arrow)) new))

    only_v : (w : ℕ) → has (one v) w ≡ true → w ≡ v
    only_v w e = eqb-true w v (sym (has_one v w) ∙ e)

    near_in : (w : ℕ) → has term.near w ≡ true → has a w ≡ true
    near_in w e = link_in g ok (has a) (has (one v)) w (λ u i. ap (has a) (only_v u i) ∙ a_own) (term.district.sound w e)

    last : IsLast g (has a) (has term.near) v
    last = record {
      parents = part_parents (union p (one v)) (next_early p v early parents);
      childless = childless;
      own = term.district.complete v (at (has_one v v ∙ eq-eqb v v refl));
      inside = near_in;
      joined = λ u w nu edge aw. term.district.complete w (by aw (ok.symmetric u w edge) (term.district.sound u nu));
    }

    around : IsAround g (has a) (has term.near) v (has term.pillow)
    around = record {
      rest = λ w e ne. term.is_pillow.complete w (ne, inl e);
      parents = λ u w arrow e. term.is_pillow.complete u (λ q. childless w (ap (λ k. g.arrow k w) (sym q) ∙ arrow) (near_in w e), inr (w, e, arrow));
      inside = λ w e. inside w ((term.is_pillow.sound w e).1);
      other = λ w e. (term.is_pillow.sound w e).0;
    }
      where
        inside : (w : ℕ) → (has term.near w ≡ true) ⊎ ((u : ℕ) × (has term.near u ≡ true) × (g.arrow w u ≡ true)) → has a w ≡ true
        inside w (inl e) = near_in w e
        inside w (inr k) = part_parents (union p (one v)) (next_early p v early parents) w k.0 k.2 (near_in k.0 k.1)

    free : AreAncestors g x y z s → (IsConfounded g x y z → ⊥) → IsFree g (has x) (has term.near)
    free are clear u w arrow nw xu = go (has term.near u) refl
      where
        go : (b : Bool) → has term.near u ≡ b → has term.near u ≡ false
        go false e = e
        go true e =
            let joined : IsLinked g (has term.near) (λ k. eqb k u) w = (district_maximal g ok a v term.near a_own term.district).joined w u nw e in
            let confounded : IsConfounded g x y z = record {
              ancestors = s;
              are = are;
              treatment = u;
              child = w;
              treated = xu;
              arrow = arrow;
              linked = linked_in_more g (has term.near) (has s) (λ k. eqb k u) w (λ k i. a_in_s k (near_in k i)) joined;
            } in
            absurd (clear confounded)

    out : has x v ≡ false
    out = go (has x v) refl
      where
        go : (b : Bool) → has x v ≡ b → has x v ≡ false
        go false e = e
        go true e = absurd (not_both (has c v) (nested.x_in v e) off_c)

    less : (w : ℕ) → without (has a) v w ≡ has (part s c p) w
    less w =
        ap (λ b. b && not (eqb w v)) (has_part s c (union p (one v)) w ∙ ap (λ b. has c w || (has s w && b)) (has_next p v w))
        ∙ bools (has c w) (has s w) (has p w) (eqb w v) (λ e. ap (has c) (eqb-true w v e) ∙ off_c) (λ e. ap (has p) (eqb-true w v e) ∙ new)
        ∙ sym (has_part s c p w)
      where
        bools : (c s p e : Bool) → (e ≡ true → c ≡ false) → (e ≡ true → p ≡ false) → ((c || (s && (p || e))) && not e) ≡ (c || (s && p))
        bools c s p true h k = rw (h refl, k refl) (two s)
          where
            two : (s : Bool) → ((false || (s && true)) && false) ≡ (false || (s && false))
            two s = grind arith
        bools c s p false h k = grind arith

  same_part : (p v : ℕ) → has (minus s c) v ≡ false → part s c (union p (one v)) ≡ part s c p
  same_part p v out = same_from_has (part s c (union p (one v))) (part s c p) (λ w.
      has_part s c (union p (one v)) w ∙ ap (λ b. has c w || (has s w && b)) (has_next p v w)
      ∙ bools (has c w) (has s w) (has p w) (eqb w v) (λ e. ap₂ (λ i j. i && not j) (ap (has s) (eqb-true w v e)) (ap (has c) (eqb-true w v e))
      ∙ sym (has_minus s c v) ∙ out) ∙ sym (has_part s c p w))
    where
      bools : (c s p e : Bool) → (e ≡ true → (s && not c) ≡ false) → (c || (s && (p || e))) ≡ (c || (s && p))
      bools true s p e h = refl
      bools false true p true h = absurd (grind (arith, h refl))
      bools false false p true h = refl
      bools false s p false h = grind arith

  part_all : (p : ℕ) → ((v : ℕ) → v < g.vertices → has p v ≡ true) → part s c p ≡ s
  part_all p whole = same_from_has (part s c p) s (λ w. has_part s c p w
      ∙ bools (has c w) (has s w) (has p w) (nested.c_in w) (λ e. whole w (nested.s_low w e)))
    where
      bools : (c s p : Bool) → (c ≡ true → s ≡ true) → (s ≡ true → p ≡ true) → (c || (s && p)) ≡ s
      bools c s p h k = grind (arith, h, k)

  module _ (are : AreAncestors g x y z s) (clear : IsConfounded g x y z → ⊥) (m : FiniteModel) (fit : Fits g m) (positive : IsPositiveModel m)
      (b t : ℕ → ℕ) (b_within : IsAssignment m.vertices m.size b) (t_within : IsAssignment m.vertices m.size t)
      (o_within : IsAssignment m.vertices m.size (as_observed m.vertices x t)) (same : (w : ℕ) → has x w ≡ true → t w ≡ b w)
      (q : ℕ → (ℕ → ℕ) → Fraction) where
    abbrev pub factor : ℕ → ℕ
    factor a = factor_of (held m (has x) b) (has a) (as_observed m.vertices x t)

    -- the product of the terms of the rest of the order takes the factor of what comes before to that of all
    pub record Leads (p : ℕ) (ts : Trees) : Type 0 where
      pub bottom : 1 ≤ (product_value (with_primes m x) q ts t).bottom
      pub products : factor (part s c p) * (product_value (with_primes m x) q ts t).top ≡ factor s * (product_value (with_primes m x) q ts t).bottom

    next_term : (p v given : ℕ) (ts : Trees) → IsEarly g p → v < g.vertices → has p v ≡ false → ((u : ℕ) → g.arrow u v ≡ true → has p u ≡ true)
        → has (minus s c) v ≡ true → IsTerm g x (part s c (union p (one v))) v given → Leads (union p (one v)) ts → Leads p (tree (prob (one v) 0 given) ts)
    next_term p v given ts early vl new parents v_in term rest = record {
      bottom = mul-pos some rest.bottom;
      products = one_more (factor (part s c p)) (weight_top) (product_value (with_primes m x) q ts t).top (factor s) (weight_bottom)
          (product_value (with_primes m x) q ts t).bottom (factor (part s c (union p (one v)))) step rest.products;
    }
      where
        read : ℕ → ℕ
        read = read_near (has x) (has term.near) b (as_observed m.vertices x t)

        weight_top : ℕ
        weight_top = (with_primes m x).weight (has 0) (λ k. has (one v) k || has given k) t

        weight_bottom : ℕ
        weight_bottom = (with_primes m x).weight (has 0) (has given) t

        names : AreNames m.vertices x term.near term.pillow given
        names = subst (λ n. AreNames n x term.near term.pillow given) (sym fit.vertices) term.names

        near : IsAround g (has (part s c (union p (one v)))) (has term.near) v (has term.pillow)
        near = around p v given early vl new parents v_in term

        low : (w : ℕ) → has term.pillow w ≡ true → w < m.vertices
        low w e = rw fit.vertices (nested.s_low w (a_in_s p v given early vl new parents v_in term w (near.inside w e)))

        x_low : (w : ℕ) → has x w ≡ true → w < m.vertices
        x_low w e = rw fit.vertices (nested.s_low w (nested.c_in w (nested.x_in w e)))

        outside : has x v ≡ false
        outside = out p v given early vl new parents v_in term

        bottom_same : weight_bottom ≡ event_weight m (has term.pillow) read
        bottom_same = bottom_is g ok m fit x x_low t t_within v term.near term.pillow given (rw fit.vertices vl) outside names low near.rest b same

        top_same : weight_top ≡ event_weight m (with_one (has term.pillow) v) read
        top_same = top_is g ok m fit x x_low t t_within v term.near term.pillow given (rw fit.vertices vl) outside names low near.rest b same

        some : 1 ≤ weight_bottom
        some =
            let e = positive_weight g m ok (follows_of g m fit) positive (λ w. false) (has term.pillow) read
            (read_within m (has x) (has term.near) b (as_observed m.vertices x t) b_within o_within) in
            let is = weight_of-none m (λ w. false) (has term.pillow) read (λ w. refl) in
            omega (arith, e, is, bottom_same)

        step : factor (part s c (union p (one v))) * weight_bottom ≡ weight_top * factor (part s c p)
        step =
            ap (λ k. factor (part s c (union p (one v))) * k) bottom_same
            ∙ next_factor g ok m fit positive (has x) (has (part s c (union p (one v)))) (has term.near) (has term.pillow) v
            (last p v given early vl new parents v_in term) near (free p v given early vl new parents v_in term are clear) outside b
            (as_observed m.vertices x t) b_within o_within
            ∙ ap₂ (λ i j. i * j) (sym top_same)
            (ap (λ k. factor_of (held m (has x) b) k (as_observed m.vertices x t)) (fun_ext (less p v given early vl new parents v_in term)))

    pub terms_lead : (p : ℕ) (o : List ℕ) (ts : Trees) → IsEarly g p → IsOrderFrom g p o → AreTerms g x s c p o ts → Leads p ts
    terms_lead p [] no_trees early order none = record {
      bottom = omega arith;
      products = ap (λ k. factor k * 1) (part_all p (λ v il. ap (λ k. has k v) order ∙ all-is g.vertices v il));
    }
    terms_lead p [] (tree f ts) early order h = elim h [ ]
    terms_lead p (v ∷ o) ts early order (skip e r) =
        let rest = terms_lead (union p (one v)) o ts (next_early p v early order.2) order.3 r in
        record { bottom = rest.bottom; products = ap (λ k. factor k * (product_value (with_primes m x) q ts t).top) (sym (same_part p v e)) ∙ rest.products }
    terms_lead p (v ∷ o) (tree f ts) early order (take {given = given} e term r) =
        next_term p v given ts early order.0 order.1 order.2 e term (terms_lead (union p (one v)) o ts (next_early p v early order.2) order.3 r)
