-- The weight of a set that has its parents, one vertex after the other.
use Rattle.std.proofs.Common.{ℕ, ◌*◌, ◌≡◌, ◌<◌, ◌≤◌, Bool, true, false, cond, eqb, not, refl, sym, ap, ap₂, ◌∙◌, ◌||◌, ◌&&◌, arith, eqb-true}
use Rattle.std.proofs.Math.Nat.{eq_of_mul-eq-mul_left}
use mathlib.Core.Path.{fun_ext}
use Rattle.mixed_graph.specs.Vocabulary.{MixedGraph, IsMixedGraph}
use Rattle.finite_models.specs.Vocabulary.{sum_over, set_at, FiniteModel, Fits, IsAssignment, IsPositiveModel, event_weight, world_weight, total}
use Rattle.finite_models.proofs.Bools.{not_both}
use Rattle.finite_models.proofs.Factors.{marginal, weight_by_checks}
use Rattle.finite_models.proofs.Following.{follows_of}
use Rattle.finite_models.proofs.Indicators.{number}
use Rattle.finite_models.proofs.Positive.{positive_weight}
use Rattle.finite_models.proofs.Ranks.{with_rank}
use Rattle.finite_models.proofs.SumLaws.{Ignores, over-congr, over-mul, product_below-congr, set_at-other, eqb-refl}
use Rattle.finite_models.proofs.Weights.{weight-none, weight_of-none}
use Rattle.treated_models.specs.Treated.{held, obeyed, factor_of}
use Rattle.treated_models.specs.Chain.{without, with_one, HasParents, IsLast, IsAround, read_near, NextFactor, FirstFactor}
use Rattle.treated_models.proofs.Apart.{apart_sets_multiply}
use Rattle.treated_models.proofs.Factor.{factor_is_effect}
use Rattle.treated_models.proofs.Held.{untouched_factors}
use Rattle.treated_models.proofs.Product.{held_fits}

-- ---- numbers
crossed : (t f f' n n' b : ℕ) → f * t ≡ n * b → f' * t ≡ n' * b → t * (f * n') ≡ t * (n * f')
crossed t f f' n n' b p q =
    (let e : t * (f * n') ≡ (f * t) * n' = omega arith in e) ∙ ap (λ k. k * n') p
    ∙ (let e : (n * b) * n' ≡ n * (n' * b) = omega arith in e) ∙ ap (λ k. n * k) (sym q)
    ∙ (let e : n * (f' * t) ≡ t * (n * f') = omega arith in e)

joined_up : (h h' n n' e e' : ℕ) → h * n' ≡ n * h' → e * n' ≡ n * e' → n' * (h * e') ≡ n' * (e * h')
joined_up h h' n n' e e' p q =
    (let k : n' * (h * e') ≡ (h * n') * e' = omega arith in k) ∙ ap (λ k. k * e') p
    ∙ (let k : (n * h') * e' ≡ (n * e') * h' = omega arith in k) ∙ ap (λ k. k * h') (sym q)
    ∙ (let k : (e * n') * h' ≡ n' * (e * h') = omega arith in k)

flipped : (a b : ℕ) → a * b ≡ b * a
flipped a b = omega arith

-- ---- sets
same : (v w : ℕ) → (a : ℕ → Bool) (c : Bool) → a v ≡ c → eqb w v ≡ true → a w ≡ c
same v w a c e q = ap a (eqb-true w v q) ∙ e

-- the rest of a outside near, with near or near without v, is a or a without v
whole_is : (n a : Bool) → (n ≡ true → a ≡ true) → (n || (a && not n)) ≡ a
whole_is n a h = grind (arith, h)

less_is : (n a e : Bool) → (n ≡ true → a ≡ true) → (e ≡ true → n ≡ true) → ((n && not e) || (a && not n)) ≡ (a && not e)
less_is n a e h k = grind (arith, h, k)

-- ---- one vertex
module _ (g : MixedGraph) (a near : ℕ → Bool) (v : ℕ) (last : IsLast g a near v) where
  abbrev others : ℕ → Bool
  others w = a w && not (near w)

  unjoined : (u w : ℕ) → near u ≡ true → others w ≡ true → g.both u w ≡ false
  unjoined u w nu ow = go (g.both u w) refl
    where
      part : (p q : Bool) → (p && not q) ≡ true → (p ≡ true) × (q ≡ false)
      part p q h = (grind (arith, h), grind (arith, h))

      go : (c : Bool) → g.both u w ≡ c → g.both u w ≡ false
      go false e = e
      go true e = let k = part (a w) (near w) ow in absurd (not_both (near w) (last.joined u w nu e k.0) k.1)

  -- in each model of the graph the factor of a is to that without v as the factor of near to that without v
  split_last : (m : FiniteModel) → Fits g m → 1 ≤ total m → (r : ℕ → ℕ)
      → factor_of m a r * factor_of m (without near v) r ≡ factor_of m near r * factor_of m (without a v) r
  split_last m fit some r =
      eq_of_mul-eq-mul_left (total m) some (factor_of m a r * factor_of m (without near v) r) (factor_of m near r * factor_of m (without a v) r)
      (crossed (total m) (factor_of m a r) (factor_of m (without a v) r) (factor_of m near r) (factor_of m (without near v) r) (factor_of m others r)
      (ap (λ s. factor_of m s r * total m) (sym (fun_ext (λ w. whole_is (near w) (a w) (last.inside w))))
      ∙ apart_sets_multiply g m fit near others (λ w e. off (a w) (near w) e) unjoined r)
      (ap (λ s. factor_of m s r * total m) (sym (fun_ext (λ w. less_is (near w) (a w) (eqb w v) (last.inside w) (same v w near true last.own))))
      ∙ apart_sets_multiply g m fit (without near v) others (λ w e. off (a w) (near w) (first (near w) (not (eqb w v)) e))
      (λ u w e. unjoined u w (first (near u) (not (eqb u v)) e)) r))
    where
      off : (p q : Bool) → q ≡ true → (p && not q) ≡ false
      off p q h = grind (arith, h)

      first : (p q : Bool) → (p && q) ≡ true → p ≡ true
      first p q h = grind (arith, h)

  without_parents : HasParents g (without a v)
  without_parents p w arrow e = go (a w) (eqb w v) e refl refl
    where
      pair : (i j : Bool) → i ≡ true → j ≡ false → (i && not j) ≡ true
      pair i j h k = grind (arith, h, k)

      go : (i j : Bool) → (i && not j) ≡ true → a w ≡ i → eqb w v ≡ j → (a p && not (eqb p v)) ≡ true
      go false j h i q = absurd (grind (arith, h))
      go true j h i q = pair (a p) (eqb p v) (last.parents p w arrow i) (ne (eqb p v) refl)
        where
          ne : (c : Bool) → eqb p v ≡ c → eqb p v ≡ false
          ne false k = k
          ne true k = absurd (last.childless w (ap (λ z. g.arrow z w) (sym (eqb-true p v k)) ∙ arrow) i)

-- ---- observed
module _ (g : MixedGraph) (ok : IsMixedGraph g) (m : FiniteModel) (fit : Fits g m) where
  -- the weight of a set that has its parents is its factor
  pub closed_factor : (a : ℕ → Bool) → HasParents g a → (q : ℕ → ℕ) → event_weight m a q ≡ factor_of m a q
  closed_factor a parents q = with_rank g ok (event_weight m a q) (factor_of m a q)
      (λ rank ranked. weight_by_checks g m rank ranked (follows_of g m fit) a q parents)

  summed_up : (a u : ℕ → Bool) (q : ℕ → ℕ) → ((w : ℕ) → a w ≡ true → u w ≡ true → ⊥)
      → sum_over u m.size m.vertices (event_weight m (λ w. a w || u w)) q ≡ event_weight m a q
  summed_up a u q apart = with_rank g ok (sum_over u m.size m.vertices (event_weight m (λ w. a w || u w)) q) (event_weight m a q)
      (λ rank ranked. marginal g m rank ranked (follows_of g m fit) a u q apart)

  -- the factor of a set reads its members and their parents alone
  factor_ignores : (a u : ℕ → Bool) → ((w : ℕ) → u w ≡ true → a w ≡ false) → ((p w : ℕ) → u p ≡ true → g.arrow p w ≡ true → a w ≡ true → ⊥)
      → Ignores m.vertices u (factor_of m a)
  factor_ignores a u out no_child b i z il ui =
      over-congr (λ j. true) m.values m.causes (λ w. world_weight m w * obeyed m a (set_at b i z) w) (λ w. world_weight m w * obeyed m a b w) (λ j. 0)
      (λ w. ap (λ r. world_weight m w * r) (product_below-congr m.vertices
      (λ v. number (cond (a v) (eqb (set_at b i z v) (m.mechanism v (set_at b i z) w)) true)) (λ v. number (cond (a v) (eqb (b v) (m.mechanism v b w)) true))
      (λ v vl. at w v vl (a v) refl)))
    where
      at : (w : ℕ → ℕ) (v : ℕ) → v < m.vertices → (c : Bool) → a v ≡ c
          → number (cond (a v) (eqb (set_at b i z v) (m.mechanism v (set_at b i z) w)) true) ≡ number (cond (a v) (eqb (b v) (m.mechanism v b w)) true)
      at w v vl false q = rw q refl
      at w v vl true q = ap₂ (λ k l. number (cond (a v) (eqb k l) true))
          (set_at-other b i z v (λ e. not_both (a v) q (ap a e ∙ out i ui)))
          (fit.reads v vl (set_at b i z) b w w (λ p h. set_at-other b i z p (λ e. no_child i v ui (ap (λ k. g.arrow k v) (sym e) ∙ h) q)) (λ j jl h. refl))

  -- the worlds of a positive model have a weight
  pub total_positive : IsPositiveModel m → (q : ℕ → ℕ) → IsAssignment m.vertices m.size q → 1 ≤ total m
  total_positive positive q within =
      let some = positive_weight g m ok (follows_of g m fit) positive (λ v. false) (λ v. false) q within in
      let is = weight_of-none m (λ v. false) (λ v. false) q (λ v. refl) ∙ weight-none m (λ v. false) q (λ v. refl) in
      omega (arith, some, is)

  module _ (a near pillow : ℕ → Bool) (v : ℕ) (last : IsLast g a near v) (around : IsAround g a near v pillow) (some : 1 ≤ total m) where
    -- what is summed out
    abbrev rest : ℕ → Bool
    rest w = (a w && not (eqb w v)) && not (pillow w)

    rest_apart : (w : ℕ) → rest w ≡ true → near w ≡ false
    rest_apart w e = go (near w) refl
      where
        go : (c : Bool) → near w ≡ c → near w ≡ false
        go false q = q
        go true q = absurd (not_both (pillow w) (around.rest w q (λ k. no (a w) (eqb w v) (pillow w) e (rw k (eqb-refl v))))
            (out (a w && not (eqb w v)) (pillow w) e))
          where
            no : (p q r : Bool) → ((p && not q) && not r) ≡ true → q ≡ true → ⊥
            no p q r h k = absurd (grind (arith, h, k))

            out : (p q : Bool) → (p && not q) ≡ true → q ≡ false
            out p q h = grind (arith, h)

    rest_no_child : (p w : ℕ) → rest p ≡ true → g.arrow p w ≡ true → near w ≡ true → ⊥
    rest_no_child p w e arrow n = absurd (not_both (pillow p) (around.parents p w arrow n) (out (a p && not (eqb p v)) (pillow p) e))
      where
        out : (p q : Bool) → (p && not q) ≡ true → q ≡ false
        out p q h = grind (arith, h)

    near_ignores : Ignores m.vertices rest (factor_of m near)
    near_ignores = factor_ignores near rest rest_apart rest_no_child

    less_ignores : Ignores m.vertices rest (factor_of m (without near v))
    less_ignores = factor_ignores (without near v) rest (λ w e. off (near w) (eqb w v) (rest_apart w e))
        (λ p w e arrow n. rest_no_child p w e arrow (first (near w) (not (eqb w v)) n))
      where
        off : (p q : Bool) → p ≡ false → (p && not q) ≡ false
        off p q h = grind (arith, h)

        first : (p q : Bool) → (p && q) ≡ true → p ≡ true
        first p q h = grind (arith, h)

    one_is : (w : ℕ) → (with_one pillow v w || rest w) ≡ a w
    one_is w = bools (pillow w) (eqb w v) (a w) (around.inside w) (same v w a true (last.inside v last.own))
      where
        bools : (p e i : Bool) → (p ≡ true → i ≡ true) → (e ≡ true → i ≡ true) → ((p || e) || ((i && not e) && not p)) ≡ i
        bools p e i h k = grind (arith, h, k)

    none_is : (w : ℕ) → (pillow w || rest w) ≡ without a v w
    none_is w = bools (pillow w) (eqb w v) (a w) (around.inside w) (λ h e. around.other w h (eqb-true w v e))
      where
        bools : (p e i : Bool) → (p ≡ true → i ≡ true) → (p ≡ true → e ≡ true → ⊥) → (p || ((i && not e) && not p)) ≡ (i && not e)
        bools true true i h k = absurd (k refl refl)
        bools true false i h k = rw (h refl) refl
        bools false e i h k = grind arith

    apart_one : (w : ℕ) → with_one pillow v w ≡ true → rest w ≡ true → ⊥
    apart_one w e f = bools (pillow w) (eqb w v) (a w) e f
      where
        bools : (p e i : Bool) → (p || e) ≡ true → ((i && not e) && not p) ≡ true → ⊥
        bools p e i h k = absurd (grind (arith, h, k))

    apart_none : (w : ℕ) → pillow w ≡ true → rest w ≡ true → ⊥
    apart_none w e f = bools (pillow w) (a w && not (eqb w v)) e f
      where
        bools : (p i : Bool) → p ≡ true → (i && not p) ≡ true → ⊥
        bools p i h k = absurd (grind (arith, h, k))

    -- P(v | pillow) is the ratio of the factor of near to that without v
    pub ratio : (q : ℕ → ℕ) → event_weight m (with_one pillow v) q * factor_of m (without near v) q ≡ factor_of m near q * event_weight m pillow q
    ratio q =
        flipped (event_weight m (with_one pillow v) q) (factor_of m (without near v) q)
        ∙ ap (λ k. factor_of m (without near v) q * k) (sym (summed_up (with_one pillow v) rest q apart_one)
        ∙ ap (λ z. sum_over rest m.size m.vertices (event_weight m z) q) (fun_ext one_is))
        ∙ sym (over-mul rest m.size m.vertices (factor_of m (without near v)) (event_weight m a) q less_ignores)
        ∙ over-congr rest m.size m.vertices (λ c. factor_of m (without near v) c * event_weight m a c)
        (λ c. factor_of m near c * event_weight m (without a v) c) q
        (λ c. flipped (factor_of m (without near v) c) (event_weight m a c)
        ∙ ap (λ k. k * factor_of m (without near v) c) (closed_factor a last.parents c)
        ∙ split_last g a near v last m fit some c
        ∙ ap (λ k. factor_of m near c * k) (sym (closed_factor (without a v) (without_parents g a near v last) c)))
        ∙ over-mul rest m.size m.vertices (factor_of m near) (event_weight m (without a v)) q near_ignores
        ∙ ap (λ k. factor_of m near q * k) (ap (λ z. sum_over rest m.size m.vertices (event_weight m z) q) (sym (fun_ext none_is))
        ∙ summed_up pillow rest q apart_none)

-- ---- with held arrows
-- the values that a district reads are an assignment
pub read_within : (m : FiniteModel) (x near : ℕ → Bool) (s r : ℕ → ℕ) → IsAssignment m.vertices m.size s → IsAssignment m.vertices m.size r
    → IsAssignment m.vertices m.size (read_near x near s r)
read_within m x near s r hs hr v il = go (x v && not (near v))
  where
    go : (c : Bool) → cond c (s v) (r v) < m.size v
    go true = hs v il
    go false = hr v il

pub next_factor : NextFactor
next_factor g ok m fit positive x a near pillow v last around free out s r hs hr =
    eq_of_mul-eq-mul_left (factor_of m (without near v) q) some
    (factor_of (held m x s) a r * event_weight m pillow q) (event_weight m (with_one pillow v) q * factor_of (held m x s) (without a v) r)
    (joined_up (factor_of (held m x s) a r) (factor_of (held m x s) (without a v) r) (factor_of m near q) (factor_of m (without near v) q)
    (event_weight m (with_one pillow v) q) (event_weight m pillow q)
    (ap (λ k. factor_of (held m x s) a r * k) (sym less_held) ∙ split_last g a near v last (held m x s) (held_fits g m fit x s hs) total_some r
    ∙ ap (λ k. k * factor_of (held m x s) (without a v) r) (untouched_factors g m fit x near free s r))
    (ratio g ok m fit a near pillow v last around total_some q))
  where
    q : ℕ → ℕ
    q = read_near x near s r

    total_some : 1 ≤ total m
    total_some = total_positive g ok m fit positive s hs

    first : (p q : Bool) → (p && q) ≡ true → p ≡ true
    first p q h = grind (arith, h)

    off : (p q : Bool) → p ≡ false → (p && not q) ≡ false
    off p q h = grind (arith, h)

    read_same : (w : ℕ) → cond (x w && not (near w && not (eqb w v))) (s w) (r w) ≡ cond (x w && not (near w)) (s w) (r w)
    read_same w = ap (λ b. cond b (s w) (r w)) (bools (x w) (near w) (eqb w v) (same v w x false out))
      where
        bools : (x n e : Bool) → (e ≡ true → x ≡ false) → (x && not (n && not e)) ≡ (x && not n)
        bools x n e h = grind (arith, h)

    less_held : factor_of (held m x s) (without near v) r ≡ factor_of m (without near v) q
    less_held =
        untouched_factors g m fit x (without near v) (λ p w arrow n xp. off (near p) (eqb p v) (free p w arrow (first (near w) (not (eqb w v)) n) xp)) s r
        ∙ ap (factor_of m (without near v)) (fun_ext read_same)

    some : 1 ≤ factor_of m (without near v) q
    some =
        let e = positive_weight g m ok (follows_of g m fit) positive (λ w. not (without near v w)) (without near v) q (read_within m x near s r hs hr) in
        let is = factor_is_effect g ok m fit (without near v) q (read_within m x near s r hs hr) in
        omega (arith, e, is)

pub first_factor : FirstFactor
first_factor g ok m fit x c parents inside untouched s r =
    untouched_factors g m fit x c (λ p v arrow cv xp. absurd (not_both (x p) xp (untouched p v arrow cv))) s r
    ∙ ap (factor_of m c) (fun_ext (λ v. ap (λ b. cond b (s v) (r v)) (bools (x v) (c v) (inside v))))
    ∙ sym (closed_factor g ok m fit c parents r)
  where
    bools : (x c : Bool) → (x ≡ true → c ≡ true) → (x && not c) ≡ false
    bools x c h = grind (arith, h)
