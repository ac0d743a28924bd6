-- Two models that differ on the target.
use Rattle.std.proofs.Common.{ℕ, zero, suc, ◌*◌, ◌≡◌, ◌<◌, ◌≤◌, Bool, true, false, eqb, not, refl, sym, ap, ◌&&◌, ◌||◌, subst, IsTrue, arith, eqb-true, eq-eqb}
use Rattle.mixed_graph.specs.Vocabulary.{has, minus, one, MixedGraph, IsMixedGraph}
use Rattle.finite_models.specs.Vocabulary.{set_at, sum_below, sum_over, FiniteModel, IsAssignment, weight_of, total}
use Rattle.finite_models.proofs.Bools.{and_first, and_second, not_both}
use Rattle.finite_models.proofs.Indicators.{number}
use Rattle.counter_models.proofs.Ends.{Found, find_below, over-find}
use Rattle.counter_models.proofs.Witness.{effects}
use Rattle.counter_models.specs.Vocabulary.{first_model, second_mechanism, data_of}
use Rattle.hedge.specs.declared.hedge.Hedge.{Hedge}
use Rattle.hedge.specs.Vocabulary.{IsHedge}
use Rattle.conditional_id.specs.Conditionals.{IsConditionalTarget}
use Rattle.counter_models.proofs.Bridge.{whole}
use Rattle.counter_models.proofs.HedgePair.{pair, is_pair}
use Rattle.conditional_id.specs.HedgeLaws.{with_mechanism, IsLeafPair, HaveOpenWalks, AreModelsOf, HedgesGiveModels}
use Rattle.walk_models.specs.Vocabulary.{event, IsBelowSomewhere}
use Rattle.conditional_id.specs.Masked.{masked, code}
use Rattle.conditional_id.proofs.Excluding.{fits₁, fits₂, two₁, two₂, pos₁, pos₂, agree, at_point, from_model}
use Rattle.conditional_id.proofs.Grown.{grown, grown_hedge, grown_roots}
use Rattle.conditional_id.proofs.Odds.{same_bit, same_bit_is, odds_fix_weights}
use Rattle.conditional_id.proofs.Opened.{rule_graph, dependent}
use Rattle.conditional_id.proofs.ParityLeaves.{read_bit, leaf_pair}
use Rattle.finite_models.proofs.SumLaws.{over-base, over-term}

-- a sum is at least each of its terms
below_term : (k : ℕ) (f : ℕ → ℕ) (i : ℕ) → i < k → f i ≤ sum_below k f
below_term k f i lt = over-term (λ j. true) (λ j. k) 1 (λ c. f (c 0)) (λ j. i) (λ j l e. lt)

-- a point of a box at which a number isn't 0, if it can't be 0 at all of them
searched : (U : ℕ → Bool) (size : ℕ → ℕ) (n : ℕ) (F : (ℕ → ℕ) → ℕ) (base : ℕ → ℕ)
    → (((s : ℕ → ℕ) → ((i : ℕ) → i < n → U i ≡ true → s i < size i) → ((i : ℕ) → (i < n → U i ≡ true → ⊥) → s i ≡ base i) → F s ≡ 0) → ⊥)
    → Found U size n F base
searched U size n F base none = go (sum_over U size n F base) refl
  where
    go : (k : ℕ) → sum_over U size n F base ≡ k → Found U size n F base
    go zero e = absurd (none (λ s inside same. let t = over-term U size n F s inside in let b = over-base U size n F s base same in omega (arith, t, b, e)))
    go (suc k) e = over-find U size n F base (omega (arith, e))

unlike : (p r : ℕ) → 1 ≤ number (not (eqb p r)) → p ≡ r → ⊥
unlike p r some e = let t : eqb p r ≡ true = eq-eqb p r e in let z : number (not (eqb p r)) ≡ 0 = rw t refl in omega (arith, z, some)

alike : (p r : ℕ) → number (not (eqb p r)) ≡ 0 → p ≡ r
alike p r none = go (eqb p r) refl
  where
    go : (b : Bool) → eqb p r ≡ b → p ≡ r
    go true e = eqb-true p r e
    go false e = let k : number (not (eqb p r)) ≡ 1 = rw e refl in absurd (omega (arith, k, none))

some_true : (b : Bool) → 1 ≤ number b → b ≡ true
some_true true le = refl
some_true false le = absurd (omega (arith, le))

same_bit_own : (a b : Bool) → a ≡ b → same_bit a b ≡ true
same_bit_own true b e = sym e
same_bit_own false true e = absurd (grind (arith, e))
same_bit_own false false e = refl

module _ (g : MixedGraph) (ok : IsMixedGraph g) (x y z : ℕ) (target : IsConditionalTarget g (record { x = x; y = y; given = z }))
    (opens : HaveOpenWalks g x y z)
    (m : FiniteModel) (h : ℕ → (ℕ → ℕ) → (ℕ → ℕ) → ℕ) (class : ℕ → ℕ → Bool) (leaves : IsLeafPair g (has x) (has z) m h class)
    (base : ℕ → ℕ) (within : IsAssignment m.vertices m.size base) (differ : weight_of m (has x) (has z) base ≡ weight_of (with_mechanism m h) (has x)
    (has z) base → ⊥) where
  abbrev left : (s : ℕ → ℕ) (w b : ℕ) → ℕ
  left s w b = weight_of m (has x) (has z) (set_at s w b) * weight_of (with_mechanism m h) (has x) (has z) s

  abbrev right : (s : ℕ → ℕ) (w b : ℕ) → ℕ
  right s w b = weight_of m (has x) (has z) s * weight_of (with_mechanism m h) (has x) (has z) (set_at s w b)

  -- the value b of w has the class of that of s, and other odds
  abbrev test : (s : ℕ → ℕ) (w b : ℕ) → Bool
  test s w b = has z w && (same_bit (class w (s w)) (class w b) && not (eqb (left s w b) (right s w b)))

  abbrev tests : (ℕ → ℕ) → ℕ
  tests s = sum_below m.vertices (λ w. sum_below (m.size w) (λ b. number (test s w b)))

  point_within : (s : ℕ → ℕ) → ((i : ℕ) → i < m.vertices → has z i ≡ true → s i < m.size i) → ((i : ℕ) → (i < m.vertices → has z i ≡ true → ⊥) → s i ≡ base i)
      → IsAssignment m.vertices m.size s
  point_within s inside same v lt = go (has z v) refl
    where
      go : (p : Bool) → has z v ≡ p → s v < m.size v
      go true e = inside v lt e
      go false e = subst (λ k. k < m.size v) (sym (same v (λ l i. not_both (has z v) i e))) (within v lt)

  found : Found (has z) m.size m.vertices tests base
  found = searched (has z) m.size m.vertices tests base (λ none.
      differ (odds_fix_weights g ok (has x) (has z) (λ v e i. not_both (has z v) i (target.sets.x_w v e)) m h class leaves base within
      (λ s s_in same w b w_low w_z b_low one_class.
      alike (left s w b) (right s w b) (drop (has z w) (same_bit (class w (s w)) (class w b)) (not (eqb (left s w b) (right s w b))) w_z
      (same_bit_own (class w (s w)) (class w b) one_class)
      (let z₁ = none s (λ i lt e. s_in i lt) same in
      let a = below_term m.vertices (λ w. sum_below (m.size w) (λ b. number (test s w b))) w w_low in
      let c = below_term (m.size w) (λ b. number (test s w b)) b b_low in omega (arith, z₁, a, c))))))
    where
      drop : (p q r : Bool) → p ≡ true → q ≡ true → number (p && (q && r)) ≡ 0 → number r ≡ 0
      drop true true r e f k = k
      drop true false r e f k = absurd (grind (arith, f))
      drop false q r e f k = absurd (grind (arith, e))

  abbrev s : ℕ → ℕ
  s = found.point

  member : (w : ℕ) × (w < m.vertices) × (1 ≤ sum_below (m.size w) (λ b. number (test found.point w b)))
  member = find_below m.vertices (λ w. sum_below (m.size w) (λ b. number (test found.point w b))) found.some

  value : (b : ℕ) × (b < m.size member.0) × (1 ≤ number (test found.point member.0 b))
  value = find_below (m.size member.0) (λ b. number (test found.point member.0 b)) member.2

  abbrev w : ℕ
  w = member.0

  abbrev b : ℕ
  b = value.0

  passed : test found.point w b ≡ true
  passed = some_true (test found.point w b) value.2

  w_z : has z w ≡ true
  w_z = and_first (has z w) (same_bit (class w (s w)) (class w b) && not (eqb (left s w b) (right s w b))) passed

  later : (same_bit (class w (s w)) (class w b) && not (eqb (left s w b) (right s w b))) ≡ true
  later = and_second (has z w) (same_bit (class w (s w)) (class w b) && not (eqb (left s w b) (right s w b))) passed

  one_class : class w (s w) ≡ class w b
  one_class = same_bit_is (class w (s w)) (class w b) (and_first (same_bit (class w (s w)) (class w b)) (not (eqb (left s w b) (right s w b))) later)

  odds_differ : left s w b ≡ right s w b → ⊥
  odds_differ =
      unlike (left s w b) (right s w b) (let e = and_second (same_bit (class w (s w)) (class w b)) (not (eqb (left s w b) (right s w b))) later in subst
      (λ k. 1 ≤ number k) (sym e) (omega arith))

  s_in : IsAssignment m.vertices m.size found.point
  s_in = point_within found.point found.inside found.same

  abbrev o : IsBelowSomewhere (rule_graph g (has x) (has (one w))) (event (has x) (λ u. has y u || has (minus z (one w)) u)) (event (has x)
      (λ u. has (one w) u || has (minus z (one w)) u))
      (event (has x) (λ u. has y u || (has (one w) u || has (minus z (one w)) u))) (event (has x) (has (minus z (one w))))
  o = dependent g ok (has x) (has (one w)) (has y) (has (minus z (one w))) (opens w w_z)

  abbrev M₁ : FiniteModel
  M₁ = masked m o.model w (s w) b (o.at w)

  abbrev M₂ : FiniteModel
  M₂ = masked (with_mechanism m h) o.model w (s w) b (o.at w)

  abbrev top : (ℕ → ℕ) → ℕ
  top r = weight_of M₁ (has x) (λ v. has y v || has z v) (code m.size w r o.at) * weight_of M₂ (has x) (has z) (code m.size w r o.at)

  abbrev bottom : (ℕ → ℕ) → ℕ
  bottom r = weight_of M₂ (has x) (λ v. has y v || has z v) (code m.size w r o.at) * weight_of M₁ (has x) (has z) (code m.size w r o.at)

  seen : Found (has y) m.size m.vertices (λ r. number (not (eqb (top r) (bottom r)))) found.point
  seen = searched (has y) m.size m.vertices (λ r. number (not (eqb (top r) (bottom r)))) found.point (λ none.
      odds_differ (from_model g ok x y z target m h class leaves w member.1 w_z found.point s_in b value.1 one_class o
      (λ r low same. alike (top r) (bottom r) (none r low same))))

  pub models : AreModelsOf g (record { x = x; y = y; given = z })
  models = record {
    first = M₁;
    second = M₂;
    first_fits = fits₁ g ok x y z target m h class leaves w member.1 w_z found.point s_in b value.1 one_class o;
    second_fits = fits₂ g ok x y z target m h class leaves w member.1 w_z found.point s_in b value.1 one_class o;
    first_two = two₁ g ok x y z target m h class leaves w member.1 w_z found.point s_in b value.1 one_class o o.two;
    second_two = two₂ g ok x y z target m h class leaves w member.1 w_z found.point s_in b value.1 one_class o o.two;
    first_positive = pos₁ g ok x y z target m h class leaves w member.1 w_z found.point s_in b value.1 one_class o;
    second_positive = pos₂ g ok x y z target m h class leaves w member.1 w_z found.point s_in b value.1 one_class o;
    observed = agree g ok x y z target m h class leaves w member.1 w_z found.point s_in b value.1 one_class o;
    differ = record {
      at = code m.size w seen.point o.at;
      within = at_point g ok x y z target m h class leaves w member.1 w_z found.point s_in b value.1 one_class o seen.point seen.inside seen.same;
      unequal = λ e. unlike (top seen.point) (bottom seen.point) seen.some e.products;
    };
  }

rooted : (g : MixedGraph) → IsMixedGraph g → g.vertices ≤ 64 → (x y z : ℕ) → IsConditionalTarget g (record { x = x; y = y; given = z }) → HaveOpenWalks g x y z
    → (h : Hedge) → IsHedge g x z h → ((v : ℕ) → IsTrue (has h.small.bits v) → IsTrue (has z v) → IsTrue (has h.roots.bits v))
    → AreModelsOf g (record { x = x; y = y; given = z })
rooted g ok few x y z target opens h hedge roots =
    let two = pair g ok few x z h hedge in
    let is = is_pair g ok few x z h hedge in
    let d = data_of z h is.kept two.carry.next in
    let w = whole g ok few x z h hedge target.sets.x_w is.kept two.carry.next is.are_kept in
    let e = effects g ok (has x) d w in
    models g ok x y z target opens (first_model g.vertices d) (second_mechanism g.vertices d) (read_bit d) (leaf_pair g ok (has x) d w roots) e.at e.within
    (λ q. e.unequal (ap (λ k. k * total (first_model g.vertices d)) q))

pub hedges_give_models : HedgesGiveModels
hedges_give_models = λ g ok few x y z target opens h hedge.
    rooted g ok few x y z target opens (grown g few x z h hedge) (grown_hedge g few x z h hedge) (λ v s i. grown_roots g few x z h hedge v s i)
