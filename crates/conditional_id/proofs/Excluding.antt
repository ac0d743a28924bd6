-- A formula for the target makes the effects of leaf pairs equal.
use Rattle.std.proofs.Common.{ℕ, ◌+◌, ◌*◌, ◌≡◌, ◌<◌, Bool, true, false, cond, eqb, not, refl, sym, ap, ap₂, ◌∙◌, ◌&&◌, ◌||◌, subst, arith, eqb-true}
use mathlib.Core.Path.{fun_ext}
use Rattle.mixed_graph.specs.Vocabulary.{has, minus, one, MixedGraph, IsMixedGraph}
use Rattle.mixed_graph.proofs.MaskLaws.{has_minus, has_one}
use Rattle.finite_models.specs.Vocabulary.{AgreeObserved, set_at, sum_over, FiniteModel, Fits, IsAssignment, IsPositiveModel, weight_of, total, ServesTwo}
use Rattle.finite_models.proofs.Bools.{not_both}
use Rattle.finite_models.proofs.SumLaws.{eqb-refl, over-mul-right, over-add}
use Rattle.finite_models.proofs.Tested.{stable}
use Rattle.counter_models.proofs.Counting.{over-congr_box}
use Rattle.conditional_id.specs.Conditionals.{IsConditionalTarget, IsTurning}
use Rattle.walk_models.specs.Vocabulary.{event, IsBelowSomewhere}
use Rattle.prob_expr.proofs.Boxes.{assignment_set}
use Rattle.conditional_id.specs.HedgeLaws.{with_mechanism, IsLeafPair, IsFixed, LeafPairsExclude}
use Rattle.conditional_id.specs.Masked.{swap, masked, code, AreAlike, IsUnread}
use Rattle.conditional_id.proofs.MaskedFits.{masked_fits}
use Rattle.conditional_id.proofs.MaskedWorlds.{without}
use Rattle.conditional_id.proofs.MaskedWeights.{hits, misses, both_are, hits_are, masked_weight, masked_total, masked_positive, code_within, first_of}
use Rattle.conditional_id.proofs.MaskedWeights.{second_of, first_in, second_in, is_code}
use Rattle.conditional_id.proofs.Odds.{odds_fix_weights}
use Rattle.conditional_id.proofs.Opened.{rule_graph, dependent, fits_more, not_read}
use Rattle.conditional_id.proofs.Served.{masked_two, mechanism_two}
use Rattle.conditional_id.proofs.Summed.{weight_reads, sum_weight, over-set, odds_from}

swap_first : (a b k : ℕ) → k ≡ a → swap a b k ≡ b
swap_first a b k e = rw (e, eqb-refl a) refl

mixed : (a₁ a₂ b₁ b₂ t₁ t₂ h k r : ℕ) → a₁ * t₂ ≡ a₂ * t₁ → b₁ * t₂ ≡ b₂ * t₁ → (a₁ * h + b₁ * k) * (t₂ * r) ≡ (a₂ * h + b₂ * k) * (t₁ * r)
mixed a₁ a₂ b₁ b₂ t₁ t₂ h k r e f =
    cut ((a₁ * h + b₁ * k) * (t₂ * r)) ((a₁ * t₂) * (h * r)) ((b₁ * t₂) * (k * r)) ((a₂ * h + b₂ * k) * (t₁ * r)) ((a₂ * t₁) * (h * r)) ((b₂ * t₁) * (k * r))
    (omega arith) (omega arith) (ap (λ i. i * (h * r)) e) (ap (λ i. i * (k * r)) f)
  where
    cut : (l a b m c d : ℕ) → l ≡ a + b → m ≡ c + d → a ≡ c → b ≡ d → l ≡ m
    cut l a b m c d p q i j = omega (arith, p, q, i, j)

-- two models of one pair, masked alike, at w
module _ (g : MixedGraph) (ok : IsMixedGraph g) (x y z : ℕ → Bool) (x_y : (v : ℕ) → x v ≡ true → y v ≡ true → ⊥) (x_z : (v : ℕ) → x v ≡ true → z v ≡ true → ⊥)
    (z_y : (v : ℕ) → z v ≡ true → y v ≡ true → ⊥)
    (m : FiniteModel) (h : ℕ → (ℕ → ℕ) → (ℕ → ℕ) → ℕ) (class : ℕ → ℕ → Bool) (pair : IsLeafPair g x z m h class)
    (w : ℕ) (w_low : w < m.vertices) (w_z : z w ≡ true) (s : ℕ
    → ℕ) (within : IsAssignment m.vertices m.size s) (b : ℕ) (b_low : b < m.size w) (one_class : class w (s w) ≡ class w b)
    (q : FiniteModel) (fit' : Fits g q) (pos' : IsPositiveModel q) (unread : IsUnread q w) (t : ℕ → ℕ) (t_in : IsAssignment q.vertices q.size t) where
  abbrev other : FiniteModel
  other = with_mechanism m h

  abbrev a : ℕ
  a = s w

  abbrev c : ℕ
  c = t w

  abbrev M : FiniteModel
  M = masked m q w a b c

  abbrev M' : FiniteModel
  M' = masked other q w a b c

  a_low : s w < m.size w
  a_low = within w w_low

  w_q : w < q.vertices
  w_q = rw fit'.vertices (rw (sym pair.first_fits.vertices) w_low)

  t_w : t w < q.size w
  t_w = t_in w w_q

  alike : AreAlike m w (s w) b
  alike = pair.first_alike w (s w) b w_z a_low b_low one_class

  alike' : AreAlike (with_mechanism m h) w (s w) b
  alike' = pair.second_alike w (s w) b w_z a_low b_low one_class

  pub fits_first : Fits g (masked m q w (s w) b (t w))
  fits_first = masked_fits g m q w a b c pair.first_fits fit' a_low b_low

  pub fits_second : Fits g (masked (with_mechanism m h) q w (s w) b (t w))
  fits_second = masked_fits g other q w a b c pair.second_fits fit' a_low b_low

  pub pos_first : IsPositiveModel (masked m q w (s w) b (t w))
  pos_first = masked_positive g ok m q w a b c pair.first_fits fit' a_low b_low alike unread w_low t_w pair.first_positive pos'

  pub pos_second : IsPositiveModel (masked (with_mechanism m h) q w (s w) b (t w))
  pos_second = masked_positive g ok other q w a b c pair.second_fits fit' a_low b_low alike' unread w_low t_w pair.second_positive pos'

  swapped_in : (r : ℕ → ℕ) → IsAssignment m.vertices m.size r → IsAssignment m.vertices m.size (set_at r w (swap (s w) b (r w)))
  swapped_in r inside = assignment_set m.vertices m.size r w (swap (s w) b (r w)) (go (eqb (r w) (s w)) (eqb (r w) b)) inside
    where
      go : (p i : Bool) → cond p b (cond i (s w) (r w)) < m.size w
      go true i = b_low
      go false true = a_low
      go false false = inside w w_low

  pub agreed : AgreeObserved (masked m q w (s w) b (t w)) (masked (with_mechanism m h) q w (s w) b (t w))
  agreed = record {
    vertices = refl;
    sizes = λ v lt. refl;
    weights = λ S inside.
        (let r = first_of g ok m q w a b c pair.first_fits fit' a_low b_low alike unread w_low t_w S in
        let k = second_of g ok m q w a b c pair.first_fits fit' a_low b_low alike unread w_low t_w S in
        let r_in = first_in g ok m q w a b c pair.first_fits fit' a_low b_low alike unread w_low t_w S in
        let k_in = second_in g ok m q w a b c pair.first_fits fit' a_low b_low alike unread w_low t_w S inside in
        let e = is_code g ok m q w a b c pair.first_fits fit' a_low b_low alike unread w_low t_w S inside in
        ap₂ (λ i j. i * j)
        (ap (λ i. weight_of M (λ v. false) (λ v. true) i) (sym e)
        ∙ masked_weight g ok m q w a b c pair.first_fits fit' a_low b_low alike unread (λ v. false) refl r k r_in k_in (λ v. true))
        (masked_total g ok other q w a b c pair.second_fits fit' a_low b_low alike' unread)
        ∙ mixed (weight_of m (λ v. false) (λ v. true) (set_at r w (swap a b (r w)))) (weight_of other (λ v. false) (λ v. true) (set_at r w (swap a b (r w))))
        (weight_of m (λ v. false) (λ v. true) r) (weight_of other (λ v. false) (λ v. true) r)
        (total m) (total other) (hits q (λ v. false) (λ v. true) w c k) (misses q (λ v. false) (λ v. true) w c k) (total q)
        (pair.observed.weights (set_at r w (swap a b (r w))) (swapped_in r r_in)) (pair.observed.weights r r_in)
        ∙ sym (ap₂ (λ i j. i * j)
        (ap (λ i. weight_of M' (λ v. false) (λ v. true) i) (sym e)
        ∙ masked_weight g ok other q w a b c pair.second_fits fit' a_low b_low alike' unread (λ v. false) refl r k r_in k_in (λ v. true))
        (masked_total g ok m q w a b c pair.first_fits fit' a_low b_low alike unread)));
  }

  not_x : x w ≡ false
  not_x = go (x w) refl
    where
      go : (p : Bool) → x w ≡ p → x w ≡ false
      go true e = absurd (x_z w e w_z)
      go false e = e

  not_y : y w ≡ false
  not_y = go (y w) refl
    where
      go : (p : Bool) → y w ≡ p → y w ≡ false
      go true e = absurd (z_y w w_z e)
      go false e = e

  abbrev both : ℕ → Bool
  both v = y v || z v

  abbrev h₁ : ℕ
  h₁ = hits q x (λ v. y v || z v) w (t w) t

  abbrev k₁ : ℕ
  k₁ = misses q x (λ v. y v || z v) w (t w) t

  abbrev h₀ : ℕ
  h₀ = hits q x z w (t w) t

  abbrev k₀ : ℕ
  k₀ = misses q x z w (t w) t

  abbrev at_b : (ℕ → ℕ) → ℕ → ℕ
  at_b r = set_at r w b

  -- the weights of the masked models at a point that has the value a at w
  shown : (A : ℕ → Bool) (r : ℕ → ℕ) → IsAssignment m.vertices m.size r → r w ≡ s w
      → weight_of (masked m q w (s w) b (t w)) x A (code m.size w r t) ≡ weight_of m x A (set_at r w b) * hits q x A w
      (t w) t + weight_of m x A r * misses q x A w (t w) t
  shown A r inside e = masked_weight g ok m q w a b c pair.first_fits fit' a_low b_low alike unread x not_x r t inside t_in A
      ∙ ap (λ i. weight_of m x A (set_at r w i) * hits q x A w (t w) t + weight_of m x A r * misses q x A w (t w) t) (swap_first (s w) b (r w) e)

  shown' : (A : ℕ → Bool) (r : ℕ → ℕ) → IsAssignment m.vertices m.size r → r w ≡ s w
      → weight_of (masked (with_mechanism m h) q w (s w) b (t w)) x A (code m.size w r t) ≡ weight_of (with_mechanism m h) x A (set_at r w b) * hits q x A w
      (t w) t + weight_of (with_mechanism m h) x A r * misses q x A w (t w) t
  shown' A r inside e = masked_weight g ok other q w a b c pair.second_fits fit' a_low b_low alike' unread x not_x r t inside t_in A
      ∙ ap (λ i. weight_of other x A (set_at r w i) * hits q x A w (t w) t + weight_of other x A r * misses q x A w (t w) t) (swap_first (s w) b (r w) e)

  abbrev β : ℕ
  β = weight_of m x z (set_at s w b)

  abbrev α : ℕ
  α = weight_of m x z s

  abbrev β' : ℕ
  β' = weight_of (with_mechanism m h) x z (set_at s w b)

  abbrev α' : ℕ
  α' = weight_of (with_mechanism m h) x z s

  -- a point that differs from s on y alone
  pub box_in : (r : ℕ → ℕ) → ((i : ℕ) → i < m.vertices → y i ≡ true → r i < m.size i) → ((i : ℕ) → (i < m.vertices → y i ≡ true → ⊥) → r i ≡ s i)
      → IsAssignment m.vertices m.size r
  box_in r low same v lt = go (y v) refl
    where
      go : (p : Bool) → y v ≡ p → r v < m.size v
      go true i = low v lt i
      go false i = subst (λ k. k < m.size v) (sym (same v (λ l j. not_both (y v) j i))) (within v lt)

  pub point_in : (r : ℕ → ℕ) → ((i : ℕ) → i < m.vertices → y i ≡ true → r i < m.size i) → ((i : ℕ) → (i < m.vertices → y i ≡ true → ⊥) → r i ≡ s i)
      → IsAssignment m.vertices (masked m q w (s w) b (t w)).size (code m.size w r t)
  point_in r low same = code_within g ok m q w a b c pair.first_fits fit' a_low b_low alike unread r t (box_in r low same) t_in

  -- where the ratios are equal at all values of y, they are so summed over y
  module _ (ratios : (r : ℕ → ℕ) → ((i : ℕ) → i < m.vertices → y i ≡ true → r i < m.size i) → ((i : ℕ) → (i < m.vertices → y i ≡ true → ⊥) → r i ≡ s i)
      → weight_of (masked m q w (s w) b (t w)) x (λ v. y v || z v) (code m.size w r t) * weight_of (masked (with_mechanism m h) q w (s w) b (t w)) x z
      (code m.size w r t)
      ≡ weight_of (masked (with_mechanism m h) q w (s w) b (t w)) x (λ v. y v || z v) (code m.size w r t) * weight_of (masked m q w (s w) b (t w)) x z
      (code m.size w r t)) where
    abbrev P : FiniteModel → (ℕ → ℕ) → ℕ
    P n r = weight_of n x (λ v. y v || z v) r

    same_set : (r : ℕ → ℕ) → ((i : ℕ) → (i < m.vertices → y i ≡ true → ⊥) → r i ≡ s i) → (n : FiniteModel)
        → (weight_of n x z r ≡ weight_of n x z s) × (weight_of n x z (set_at r w b) ≡ weight_of n x z (set_at s w b))
    same_set r same n = (
      weight_reads n x z r s (λ v e. same v (λ lt i. x_y v e i)) (λ v e. same v (λ lt i. z_y v e i)),
      weight_reads n x z (set_at r w b) (set_at s w b) (λ v e. at v (same v (λ lt i. x_y v e i))) (λ v e. at v (same v (λ lt i. z_y v e i))),
    )
      where
        at : (v : ℕ) → r v ≡ s v → set_at r w b v ≡ set_at s w b v
        at v e = ap (λ k. cond (eqb v w) b k) e

    pointwise : (r : ℕ → ℕ) → ((i : ℕ) → i < m.vertices → y i ≡ true → r i < m.size i) → ((i : ℕ) → (i < m.vertices → y i ≡ true → ⊥) → r i ≡ s i)
        → (P m (set_at r w b) * h₁ + P m r * k₁) * (β' * h₀ + α' * k₀) ≡ (P other (set_at r w b) * h₁ + P other r * k₁) * (β * h₀ + α * k₀)
    pointwise r low same =
        let inside : IsAssignment m.vertices m.size r = box_in r low same in
        let e : r w ≡ s w = same w (λ lt i. z_y w w_z i) in
        let one' = same_set r same m in let two = same_set r same other in
        ap₂ (λ i j. i * j) (sym (shown (λ v. y v || z v) r inside e)) (sym (shown' z r inside e ∙ ap₂ (λ i j. i * h₀ + j * k₀) two.1 two.0))
        ∙ ratios r low same
        ∙ ap₂ (λ i j. i * j) (shown' (λ v. y v || z v) r inside e) (shown z r inside e ∙ ap₂ (λ i j. i * h₀ + j * k₀) one'.1 one'.0)

    abbrev box : ((ℕ → ℕ) → ℕ) → ℕ
    box F = sum_over y m.size m.vertices F s

    -- the mixture of a model, summed
    mixture : (n : FiniteModel) → n.vertices ≡ m.vertices → n.size ≡ m.size → Fits g n → (K : ℕ)
        → box (λ r. (P n (set_at r w b) * h₁ + P n r * k₁) * K) ≡ (weight_of n x z (set_at s w b) * h₁ + weight_of n x z s * k₁) * K
    mixture n vertices size fit K =
        over-mul-right y m.size m.vertices (λ r. P n (set_at r w b) * h₁ + P n r * k₁) (λ r. K) s (λ i j k lt e. refl)
        ∙ ap (λ i. i * K) (over-add y m.size m.vertices (λ r. P n (set_at r w b) * h₁) (λ r. P n r * k₁) s
        ∙ ap₂ (λ i j. i + j)
        (over-mul-right y m.size m.vertices (λ r. P n (set_at r w b)) (λ r. h₁) s (λ i j k lt e. refl)
        ∙ ap (λ i. i * h₁) (over-set y m.size m.vertices (P n) s w b not_y ∙ summed (set_at s w b) (assignment_set m.vertices m.size s w b b_low within)))
        (over-mul-right y m.size m.vertices (P n) (λ r. k₁) s (λ i j k lt e. refl) ∙ ap (λ i. i * k₁) (summed s within)))
      where
        summed : (r : ℕ → ℕ) → IsAssignment m.vertices m.size r → sum_over y m.size m.vertices (P n) r ≡ weight_of n x z r
        summed r inside = ap₂ (λ i j. sum_over y i j (P n) r) (sym size) (sym vertices)
            ∙ sum_weight g ok n fit x y z x_y z_y r (λ v lt. subst (λ i. r v < i v) (sym size) (inside v (subst (λ i. v < i) vertices lt)))

    balanced : (β * h₁ + α * k₁) * (β' * h₀ + α' * k₀) ≡ (β' * h₁ + α' * k₁) * (β * h₀ + α * k₀)
    balanced =
        sym (mixture m refl refl pair.first_fits (β' * h₀ + α' * k₀))
        ∙ over-congr_box y m.size m.vertices (λ r. (P m (set_at r w b) * h₁ + P m r * k₁) * (β' * h₀ + α' * k₀))
        (λ r. (P other (set_at r w b) * h₁ + P other r * k₁) * (β * h₀ + α * k₀)) s pointwise
        ∙ mixture other refl refl pair.second_fits (β * h₀ + α * k₀)

    -- the model q tells w from y
    pub odds_are : k₁ * h₀ < h₁ * k₀
        → weight_of m x z (set_at s w b) * weight_of (with_mechanism m h) x z s ≡ weight_of m x z s * weight_of (with_mechanism m h) x z (set_at s w b)
    odds_are lt = odds_from α β α' β' h₁ k₁ h₀ k₀ lt balanced

below_parts : (h₁ k₁ h₀ k₀ : ℕ) → (h₁ + k₁) * h₀ < h₁ * (h₀ + k₀) → k₁ * h₀ < h₁ * k₀
below_parts h₁ k₁ h₀ k₀ lt =
    let l : (h₁ + k₁) * h₀ ≡ h₁ * h₀ + k₁ * h₀ = omega arith in let r : h₁ * (h₀ + k₀) ≡ h₁ * h₀ + h₁ * k₀ = omega arith in omega (arith, l, r, lt)

module _ (g : MixedGraph) (ok : IsMixedGraph g) (x y z : ℕ) (target : IsConditionalTarget g (record { x = x; y = y; given = z }))
    (m : FiniteModel) (h : ℕ → (ℕ → ℕ) → (ℕ → ℕ) → ℕ) (class : ℕ → ℕ → Bool) (pair : IsLeafPair g (has x) (has z) m h class)
    (w : ℕ) (w_low : w < m.vertices) (w_z : has z w ≡ true) (s : ℕ
    → ℕ) (within : IsAssignment m.vertices m.size s) (b : ℕ) (b_low : b < m.size w) (one_class : class w (s w) ≡ class w b) where
  x_y : (v : ℕ) → has x v ≡ true → has y v ≡ true → ⊥
  x_y v e i = not_both (has y v) i (target.sets.x_y v e)

  x_z : (v : ℕ) → has x v ≡ true → has z v ≡ true → ⊥
  x_z v e i = not_both (has z v) i (target.sets.x_w v e)

  z_y : (v : ℕ) → has z v ≡ true → has y v ≡ true → ⊥
  z_y v e i = not_both (has z v) e (target.sets.y_w v i)

  w_one : has (one w) w ≡ true
  w_one = has_one w w ∙ eqb-refl w

  abbrev W : ℕ → Bool
  W = has (minus z (one w))

  rest : (v : ℕ) → has (minus z (one w)) v ≡ (has z v && not (eqb v w))
  rest v = has_minus z (one w) v ∙ ap (λ k. has z v && not k) (has_one w v)

  all_of_z : ◌≡◌ {A = ℕ → Bool} (λ v. has (one w) v || has (minus z (one w)) v) (has z)
  all_of_z = fun_ext (λ v. ap₂ (λ i j. i || j) (has_one w v) (rest v) ∙ go v (eqb v w) refl)
    where
      go : (v : ℕ) (p : Bool) → eqb v w ≡ p → (eqb v w || (has z v && not (eqb v w))) ≡ has z v
      go v true e = rw e (sym (ap (has z) (eqb-true v w e) ∙ w_z))
      go v false e = rw e (own (has z v))
        where
          own : (k : Bool) → (k && true) ≡ k
          own true = refl
          own false = refl

  y_and_z : ◌≡◌ {A = ℕ → Bool} (λ v. has y v || (has (one w) v || has (minus z (one w)) v)) (λ v. has y v || has z v)
  y_and_z = ap (λ (k : ℕ → Bool). λ v. has y v || k v) all_of_z

  z_without : ◌≡◌ {A = ℕ → Bool} (without (has z) w) (has (minus z (one w)))
  z_without = fun_ext (λ v. sym (rest v))

  y_without : ◌≡◌ {A = ℕ → Bool} (without (λ v. has y v || has z v) w) (λ v. has y v || has (minus z (one w)) v)
  y_without = fun_ext (λ v. go v (eqb v w) refl ∙ ap (λ k. has y v || k) (sym (rest v)))
    where
      w_y : has y w ≡ false
      w_y = at (has y w) refl
        where
          at : (p : Bool) → has y w ≡ p → has y w ≡ false
          at true e = absurd (z_y w w_z e)
          at false e = e

      go : (v : ℕ) (p : Bool) → eqb v w ≡ p → ((has y v || has z v) && not (eqb v w)) ≡ (has y v || (has z v && not (eqb v w)))
      go v true e = rw (e, (let k : has y v ≡ false = ap (has y) (eqb-true v w e) ∙ w_y in k)) (own (has z v))
        where
          own : (k : Bool) → (k && false) ≡ (k && false)
          own k = refl
      go v false e = rw e (own (has y v) (has z v))
        where
          own : (i k : Bool) → ((i || k) && true) ≡ (i || (k && true))
          own true k = refl
          own false k = refl

  module _ (o : IsBelowSomewhere (rule_graph g (has x) (has (one w))) (event (has x) (λ u. has y u || has (minus z (one w)) u))
      (event (has x) (λ u. has (one w) u || has (minus z (one w)) u))
      (event (has x) (λ u. has y u || (has (one w) u || has (minus z (one w)) u))) (event (has x) (has (minus z (one w))))) where
    pub fits₁ : Fits g (masked m o.model w (s w) b (o.at w))
    fits₁ = fits_first g ok (has x) (has y) (has z) x_y x_z z_y m h class pair w w_low w_z s within b b_low one_class o.model
        (fits_more g ok (has x) (has (one w)) o.model o.fits) o.positive (not_read g ok (has x) (has (one w)) o.model o.fits w w_one) o.at o.less.within

    pub fits₂ : Fits g (masked (with_mechanism m h) o.model w (s w) b (o.at w))
    fits₂ = fits_second g ok (has x) (has y) (has z) x_y x_z z_y m h class pair w w_low w_z s within b b_low one_class o.model
        (fits_more g ok (has x) (has (one w)) o.model o.fits) o.positive (not_read g ok (has x) (has (one w)) o.model o.fits w w_one) o.at o.less.within

    pub two₁ : ServesTwo o.model → ServesTwo (masked m o.model w (s w) b (o.at w))
    two₁ t = masked_two m o.model w (s w) b (o.at w) pair.two t

    pub two₂ : ServesTwo o.model → ServesTwo (masked (with_mechanism m h) o.model w (s w) b (o.at w))
    two₂ t = masked_two (with_mechanism m h) o.model w (s w) b (o.at w) (mechanism_two m h pair.two) t

    pub pos₁ : IsPositiveModel (masked m o.model w (s w) b (o.at w))
    pos₁ = pos_first g ok (has x) (has y) (has z) x_y x_z z_y m h class pair w w_low w_z s within b b_low one_class o.model
        (fits_more g ok (has x) (has (one w)) o.model o.fits) o.positive (not_read g ok (has x) (has (one w)) o.model o.fits w w_one) o.at o.less.within

    pub pos₂ : IsPositiveModel (masked (with_mechanism m h) o.model w (s w) b (o.at w))
    pos₂ = pos_second g ok (has x) (has y) (has z) x_y x_z z_y m h class pair w w_low w_z s within b b_low one_class o.model
        (fits_more g ok (has x) (has (one w)) o.model o.fits) o.positive (not_read g ok (has x) (has (one w)) o.model o.fits w w_one) o.at o.less.within

    pub agree : AgreeObserved (masked m o.model w (s w) b (o.at w)) (masked (with_mechanism m h) o.model w (s w) b (o.at w))
    agree = agreed g ok (has x) (has y) (has z) x_y x_z z_y m h class pair w w_low w_z s within b b_low one_class o.model
        (fits_more g ok (has x) (has (one w)) o.model o.fits) o.positive (not_read g ok (has x) (has (one w)) o.model o.fits w w_one) o.at o.less.within

    pub at_point : (r : ℕ → ℕ) → ((i : ℕ) → i < m.vertices → has y i ≡ true → r i < m.size i) → ((i : ℕ) → (i < m.vertices → has y i ≡ true → ⊥) → r i ≡ s i)
        → IsAssignment m.vertices (masked m o.model w (s w) b (o.at w)).size (code m.size w r o.at)
    at_point r low same = point_in g ok (has x) (has y) (has z) x_y x_z z_y m h class pair w w_low w_z s within b b_low one_class o.model
        (fits_more g ok (has x) (has (one w)) o.model o.fits) o.positive
        (not_read g ok (has x) (has (one w)) o.model o.fits w w_one) o.at o.less.within r low same

    pub from_model : ((r : ℕ → ℕ) → ((i : ℕ) → i < m.vertices → has y i ≡ true → r i < m.size i) → ((i : ℕ) → (i < m.vertices → has y i ≡ true → ⊥) → r i ≡ s i)
        → weight_of (masked m o.model w (s w) b (o.at w)) (has x) (λ v. has y v || has z v) (code m.size w r o.at) * weight_of
        (masked (with_mechanism m h) o.model w (s w) b (o.at w)) (has x) (has z) (code m.size w r o.at)
        ≡ weight_of (masked (with_mechanism m h) o.model w (s w) b (o.at w)) (has x) (λ v. has y v || has z v) (code m.size w r o.at) * weight_of
        (masked m o.model w (s w) b (o.at w)) (has x) (has z) (code m.size w r o.at))
        → weight_of m (has x) (has z) (set_at s w b) * weight_of (with_mechanism m h) (has x) (has z) s ≡ weight_of m (has x) (has z) s * weight_of
        (with_mechanism m h) (has x) (has z) (set_at s w b)
    from_model ratios =
        let q = o.model in
        let fit' = fits_more g ok (has x) (has (one w)) q o.fits in
        let t = o.at in
        let w_q : w < q.vertices = rw fit'.vertices (rw (sym pair.first_fits.vertices) w_low) in
        odds_are g ok (has x) (has y) (has z) x_y x_z z_y m h class pair w w_low w_z s within b b_low one_class o.model
        (fits_more g ok (has x) (has (one w)) o.model o.fits) o.positive
        (not_read g ok (has x) (has (one w)) o.model o.fits w w_one) o.at o.less.within ratios
        (below_parts (hits q (has x) (λ v. has y v || has z v) w (t w) t) (misses q (has x) (λ v. has y v || has z v) w (t w) t)
        (hits q (has x) (has z) w (t w) t) (misses q (has x) (has z) w (t w) t)
        (told (weight_of q (has x) (λ u. has y u || has (minus z (one w)) u) t) (weight_of q (has x) (λ u. has (one w) u || has (minus z (one w)) u) t)
        (weight_of q (has x) (λ u. has y u || (has (one w) u || has (minus z (one w)) u)) t) (weight_of q (has x) (has (minus z (one w))) t)
        (hits q (has x) (λ v. has y v || has z v) w (t w) t) (misses q (has x) (λ v. has y v || has z v) w (t w) t) (hits q (has x) (has z) w (t w) t)
        (misses q (has x) (has z) w (t w) t)
        (both_are q (has x) (λ v. has y v || has z v) w (t w) t ∙ ap (λ k. weight_of q (has x) k t) y_without)
        (hits_are q (has x) (has z) w (t w) t w_q w_z refl ∙ ap (λ k. weight_of q (has x) k t) (sym all_of_z))
        (hits_are q (has x) (λ v. has y v || has z v) w (t w) t w_q (or_right (has y w) (has z w) w_z) refl ∙ ap (λ k. weight_of q (has x) k t) (sym y_and_z))
        (both_are q (has x) (has z) w (t w) t ∙ ap (λ k. weight_of q (has x) k t) z_without)
        o.less.below))
      where
        or_right : (p r : Bool) → r ≡ true → (p || r) ≡ true
        or_right true r e = refl
        or_right false r e = e

        told : (i j k l h₁ k₁ h₀ k₀ : ℕ) → h₁ + k₁ ≡ i → h₀ ≡ j → h₁ ≡ k → h₀ + k₀ ≡ l → i * j < k * l → (h₁ + k₁) * h₀ < h₁ * (h₀ + k₀)
        told i j k l h₁ k₁ h₀ k₀ a c d e lt = subst (λ n. n < h₁ * (h₀ + k₀)) (ap₂ (λ p r. p * r) (sym a) (sym c))
            (subst (λ n. i * j < n) (ap₂ (λ p r. p * r) (sym d) (sym e)) lt)

  pub odds_equal : IsFixed g (record { x = x; y = y; given = z }) → (IsTurning g x y z w → ⊥)
      → weight_of m (has x) (has z) (set_at s w b) * weight_of (with_mechanism m h) (has x) (has z) s ≡ weight_of m (has x) (has z) s * weight_of
      (with_mechanism m h) (has x) (has z) (set_at s w b)
  odds_equal fixed none = stable (weight_of m (has x) (has z) (set_at s w b) * weight_of (with_mechanism m h) (has x) (has z) s)
      (weight_of m (has x) (has z) s * weight_of (with_mechanism m h) (has x) (has z) (set_at s w b))
      (λ unlike. none (record {
        graph = rule_graph g (has x) (has (one w));
        is_graph = refl;
        separated = λ v r k. (let o = dependent g ok (has x) (has (one w)) (has y) (has (minus z (one w))) (v, r, k) in let t = o.two in unlike
            (from_model o (λ r low same. (fixed (masked m o.model w (s w) b (o.at w)) (masked (with_mechanism m h) o.model w (s w) b (o.at w)) (fits₁ o)
            (fits₂ o) (two₁ o t) (two₂ o t) (pos₁ o) (pos₂ o) (agree o) (code m.size w r o.at) (at_point o r low same)).products)));
      }))

-- a formula for the target makes the effect on z one in both models of a leaf pair
pub leaf_pairs_exclude : LeafPairsExclude
leaf_pairs_exclude = λ g ok x y z target none fixed m h class pair s within.
    odds_fix_weights g ok (has x) (has z) (λ v e i. not_both (has z v) i (target.sets.x_w v e)) m h class pair s within
    (λ s' within' same w b w_low w_z b_low one_class. odds_equal g ok x y z target m h class pair w w_low w_z s' within' b b_low one_class fixed (none w w_z))
