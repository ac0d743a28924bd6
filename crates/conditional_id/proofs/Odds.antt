-- Equal odds fix the effect on z.
use Rattle.std.proofs.Common.{ℕ, zero, suc, ◌*◌, ◌≡◌, ◌<◌, ◌≤◌, Bool, true, false, cond, eqb, refl, sym, ap, ap₂, ◌∙◌, ◌&&◌, subst, arith, eqb-true}
use Rattle.std.proofs.Math.Nat.{eq_of_mul-eq-mul_left}
use mathlib.Core.Path.{fun_ext}
use Rattle.mixed_graph.specs.Vocabulary.{MixedGraph, IsMixedGraph}
use Rattle.finite_models.specs.Vocabulary.{set_at, sum_over, all_below, FiniteModel, Fits, IsAssignment, event_weight, weight_of, solution, intervene, world_weight}
use Rattle.finite_models.proofs.Following.{follows_of, follows_intervene, intervene_alike}
use Rattle.finite_models.proofs.Indicators.{number, cond_gives, cond_from, all_below_each, all_below_from}
use Rattle.finite_models.proofs.Positive.{positive_weight}
use Rattle.finite_models.proofs.Ranks.{with_rank}
use Rattle.finite_models.proofs.SumLaws.{over-congr, over-mul, over-mul-right, set_at-other, over-term}
use Rattle.counter_models.proofs.Counting.{over-congr_box}
use Rattle.counter_models.proofs.Differs.{by_cells}
use Rattle.prob_expr.proofs.Boxes.{assignment_set}
use Rattle.conditional_id.specs.HedgeLaws.{with_mechanism, IsLeafPair, HaveEqualOdds, OddsFixWeights}

all_below-congr : (n : ℕ) (p q : ℕ → Bool) → ((i : ℕ) → i < n → p i ≡ q i) → all_below n p ≡ all_below n q
all_below-congr zero p q h = refl
all_below-congr (suc n) p q h = ap₂ (λ a b. a && b) (all_below-congr n p q (λ i lt. h i (omega arith))) (h n (omega arith))

-- the two tests are one
abbrev pub same_bit : Bool → Bool → Bool
same_bit true b = b
same_bit false b = cond b false true

pub same_bit_is : (a b : Bool) → same_bit a b ≡ true → a ≡ b
same_bit_is true true e = refl
same_bit_is true false e = absurd (grind (arith, e))
same_bit_is false true e = absurd (grind (arith, e))
same_bit_is false false e = refl

above : (a b : Bool) (p q r t k : ℕ) → (a ≡ true → p * q ≡ r * t) → (p * cond a 1 0) * q ≡ r * (t * cond a 1 0)
above true b p q r t k h = (let l : (p * 1) * q ≡ p * q = omega arith in l) ∙ h refl ∙ (let l : r * t ≡ r * (t * 1) = omega arith in l)
above false b p q r t k h = (let l : (p * 0) * q ≡ 0 = omega arith in l) ∙ (let l : 0 ≡ r * (t * 0) = omega arith in l)

some_first : (p q r : ℕ) → 1 ≤ p → p * q ≡ r * p → q ≡ r
some_first p q r pos h = eq_of_mul-eq-mul_left p pos q r (h ∙ (let l : r * p ≡ p * r = omega arith in l))

module _ (g : MixedGraph) (ok : IsMixedGraph g) (x z : ℕ → Bool) (apart : (v : ℕ) → x v ≡ true → z v ≡ true → ⊥)
    (m : FiniteModel) (f : ℕ → (ℕ → ℕ) → (ℕ → ℕ) → ℕ) (class : ℕ → ℕ → Bool) (pair : IsLeafPair g x z m f class) where
  abbrev other : FiniteModel
  other = with_mechanism m f

  abbrev first : (ℕ → ℕ) → ℕ
  first s = weight_of m x z s

  abbrev second : (ℕ → ℕ) → ℕ
  second s = weight_of (with_mechanism m f) x z s

  positive : (s : ℕ → ℕ) → IsAssignment m.vertices m.size s → 1 ≤ second s
  positive s within = positive_weight g (with_mechanism m f) ok (follows_of g (with_mechanism m f) pair.second_fits) pair.second_positive x z s within

  module _ (s : ℕ → ℕ) (within : IsAssignment m.vertices m.size s) (odds : HaveEqualOdds x z m f class s) where
    -- t differs from s at members of z below j alone, by values of the same classes
    chain : (j : ℕ) → j ≤ m.vertices → (t : ℕ → ℕ) → IsAssignment m.vertices m.size t → ((v : ℕ) → (v < j → z v ≡ true → ⊥) → t v ≡ s v)
        → ((v : ℕ) → v < j → z v ≡ true → class v (t v) ≡ class v (s v))
        → first t * second s ≡ first s * second t
    chain zero le t inside same classes = let e : t ≡ s = fun_ext (λ v. same v (λ lt. absurd (omega arith))) in rw e refl
    chain (suc j) le t inside same classes = go (z j) refl (λ t' i' s' c'. chain j (omega arith) t' i' s' c')
      where
        back : ℕ → ℕ
        back = set_at t j (s j)

        go : (c : Bool) → z j ≡ c → ((t' : ℕ → ℕ) → IsAssignment m.vertices m.size t' → ((v : ℕ) → (v < j → z v ≡ true → ⊥) → t' v ≡ s v)
            → ((v : ℕ) → v < j → z v ≡ true → class v (t' v) ≡ class v (s v)) → first t' * second s ≡ first s * second t')
            → first t * second s ≡ first s * second t
        go false e ih = ih t inside (λ v out. same v (λ lt i. out (let d : v ≡ j → ⊥ = λ q. absurd (grind (arith, ap z q, i, e)) in omega arith) i))
            (λ v lt i. classes v (omega arith) i)
        go true e ih =
            let low : s j < m.size j = within j (omega arith) in
            let inside' : IsAssignment m.vertices m.size (set_at t j (s j)) = assignment_set m.vertices m.size t j (s j) low inside in
            let step = odds t inside (λ v out. same v (λ lt i. out (omega (arith, lt, le)) i)) j (s j) (omega arith) e low (classes j (omega arith) e) in
            let before = ih (set_at t j (s j)) inside' (λ v out. at v out (eqb v j) refl)
            (λ v lt i. ap (class v) (set_at-other t j (s j) v (λ q. absurd (omega arith))) ∙ classes v (omega arith) i) in
            let pos = positive (set_at t j (s j)) inside' in
            joined (first t) (second t) (first (set_at t j (s j))) (second (set_at t j (s j))) (first s) (second s) pos step before
          where
            at : (v : ℕ) → (v < j → z v ≡ true → ⊥) → (q : Bool) → eqb v j ≡ q → cond (eqb v j) (s j) (t v) ≡ s v
            at v out true q = rw q (ap s (sym (eqb-true v j q)))
            at v out false q = rw q (same v (λ lt i. out (let d : v ≡ j → ⊥ = λ r. absurd (grind (arith, r, q)) in omega arith) i))

            joined : (a b c d p q : ℕ) → 1 ≤ d → c * b ≡ a * d → c * q ≡ p * d → a * q ≡ p * b
            joined a b c d p q pos h k = eq_of_mul-eq-mul_left d pos (a * q) (p * b)
                ((let l : d * (a * q) ≡ (a * d) * q = omega arith in l) ∙ ap (λ i. i * q) (sym h) ∙ (let l : (c * b) * q ≡ (c * q) * b = omega arith in l)
                ∙ ap (λ i. i * b) k ∙ (let l : (p * d) * b ≡ d * (p * b) = omega arith in l))

    -- the point t has at each member of z a value of the class of that of s
    abbrev same_class : (ℕ → ℕ) → Bool
    same_class t = all_below m.vertices (λ v. cond (z v) (same_bit (class v (t v)) (class v (s v))) true)

    pointwise : (t : ℕ → ℕ) → ((i : ℕ) → i < m.vertices → z i ≡ true → t i < m.size i) → ((i : ℕ) → (i < m.vertices → z i ≡ true → ⊥) → t i ≡ s i)
        → same_class t ≡ true → first t * second s ≡ first s * second t
    pointwise t inside same e = chain m.vertices (omega arith) t (λ v lt. low v lt (z v) refl) (λ v out. same v out)
        (λ v lt i. same_bit_is (class v (t v)) (class v (s v))
        (cond_gives (z v) (same_bit (class v (t v)) (class v (s v)))
        (all_below_each m.vertices (λ v. cond (z v) (same_bit (class v (t v)) (class v (s v))) true) e v lt) i))
      where
        low : (v : ℕ) → v < m.vertices → (c : Bool) → z v ≡ c → t v < m.size v
        low v lt true q = inside v lt q
        low v lt false q = subst (λ k. k < m.size v) (sym (same v (λ l i. absurd (grind (arith, i, q))))) (within v lt)

    -- the weight of all points of z of the classes of s
    class_weight : FiniteModel → ℕ
    class_weight p = sum_over z m.size m.vertices (λ t. weight_of p x z t * number (same_class t)) s

    reads_class : (t c : ℕ → ℕ) → ((v : ℕ) → v < m.vertices → z v ≡ true → t v ≡ c v) → number (same_class c) ≡ number (same_class t)
    reads_class t c h =
        ap number (all_below-congr m.vertices (λ v. cond (z v) (same_bit (class v (c v)) (class v (s v))) true)
        (λ v. cond (z v) (same_bit (class v (t v)) (class v (s v))) true)
        (λ v lt. at v (z v) refl (h v lt)))
      where
        at : (v : ℕ) (q : Bool) → z v ≡ q → (z v ≡ true → t v ≡ c v)
            → cond (z v) (same_bit (class v (c v)) (class v (s v))) true ≡ cond (z v) (same_bit (class v (t v)) (class v (s v))) true
        at v true q k = ap (λ r. cond (z v) (same_bit (class v r) (class v (s v))) true) (sym (k q))
        at v false q k = rw q refl

    -- it is a sum over worlds
    by_worlds : (p : FiniteModel) → p.vertices ≡ m.vertices → p.size ≡ m.size → p.values ≡ m.values → Fits g p → IsAssignment p.vertices p.size s
        → class_weight p ≡ sum_over (λ j. true) p.values p.causes (λ u. world_weight p u * number (same_class (solution (intervene p x s) u))) (λ j. 0)
    unfolding class_weight
    by_worlds p vertices size values fit inside =
        over-congr_box z m.size m.vertices (λ t. weight_of p x z t * number (same_class t)) (λ t. event_weight (intervene p x s) z t * number (same_class t)) s
        (λ t low same. ap (λ k. event_weight k z t * number (same_class t)) (intervene_alike p x t s (λ v e. same_outside v e t same)))
        ∙ ap₂ (λ k n. sum_over z k n (λ t. event_weight (intervene p x s) z t * number (same_class t)) s) (sym size) (sym vertices)
        ∙ with_rank g ok (sum_over z p.size p.vertices (λ t. event_weight (intervene p x s) z t * number (same_class t)) s)
        (sum_over (λ j. true) p.values p.causes (λ u. world_weight p u * number (same_class (solution (intervene p x s) u))) (λ j. 0))
        (λ rank ranked. by_cells g (intervene p x s) rank ranked (follows_intervene g p x s inside (follows_of g p fit)) z (λ t. number (same_class t)) s
        (λ t c h. reads_class t c (λ v lt i. h v (subst (λ k. v < k) (sym vertices) lt) i)))
      where
        same_outside : (v : ℕ) → x v ≡ true → (t : ℕ → ℕ) → ((i : ℕ) → (i < m.vertices → z i ≡ true → ⊥) → t i ≡ s i) → t v ≡ s v
        same_outside v e t same = same v (λ lt i. apart v e i)

    classes_weigh : class_weight m ≡ class_weight (with_mechanism m f)
    classes_weigh =
        by_worlds m refl refl refl pair.first_fits within
        ∙ over-congr (λ j. true) m.values m.causes (λ u. world_weight m u * number (same_class (solution (intervene m x s) u)))
        (λ u. world_weight m u * number (same_class (solution (intervene (with_mechanism m f) x s) u))) (λ j. 0)
        (λ u. ap (λ r. world_weight m u * number r) (all_below-congr m.vertices
        (λ v. cond (z v) (same_bit (class v (solution (intervene m x s) u v)) (class v (s v))) true)
        (λ v. cond (z v) (same_bit (class v (solution (intervene (with_mechanism m f) x s) u v)) (class v (s v))) true)
        (λ v lt. at u v lt (z v) refl)))
        ∙ sym (by_worlds (with_mechanism m f) refl refl refl pair.second_fits within)
      where
        at : (u : ℕ → ℕ) (v : ℕ) → v < m.vertices → (q : Bool) → z v ≡ q
            → cond (z v) (same_bit (class v (solution (intervene m x s) u v)) (class v (s v))) true ≡ cond (z v)
            (same_bit (class v (solution (intervene (with_mechanism m f) x s) u v)) (class v (s v))) true
        at u v lt true q = ap (λ r. cond (z v) (same_bit r (class v (s v))) true) (pair.classes s u within v lt q)
        at u v lt false q = rw q refl

    balanced : class_weight m * second s ≡ first s * class_weight (with_mechanism m f)
    unfolding class_weight
    balanced =
        sym (over-mul-right z m.size m.vertices (λ t. first t * number (same_class t)) (λ t. second s) s (λ b i v lt e. refl))
        ∙ over-congr_box z m.size m.vertices (λ t. (first t * number (same_class t)) * second s) (λ t. first s * (second t * number (same_class t))) s
        (λ t low same. above (same_class t) true (first t) (second s) (first s) (second t) 0 (λ e. pointwise t low same e))
        ∙ over-mul z m.size m.vertices (λ t. first s) (λ t. second t * number (same_class t)) s (λ b i v lt e. refl)

    -- the sum holds the point s itself
    some_weight : 1 ≤ class_weight m
    unfolding class_weight
    some_weight =
        let t = over-term z m.size m.vertices (λ t. first t * number (same_class t)) s (λ i lt e. within i lt) in
        let p = positive_weight g m ok (follows_of g m pair.first_fits) pair.first_positive x z s within in
        let c : same_class s ≡ true = all_below_from m.vertices (λ v. cond (z v) (same_bit (class v (s v)) (class v (s v))) true)
        (λ v lt. cond_from (z v) (same_bit (class v (s v)) (class v (s v))) (λ e. own (class v (s v)))) in
        let n : first s * number (same_class s) ≡ first s * 1 = ap (λ r. first s * number r) c in
        omega (arith, t, p, n)
      where
        own : (b : Bool) → same_bit b b ≡ true
        own true = refl
        own false = refl

    pub same_weight : first s ≡ second s
    same_weight = sym (some_first (class_weight m) (second s) (first s) some_weight (balanced ∙ ap (λ r. first s * r) (sym classes_weigh)))

-- equal odds give equal effects
pub odds_fix_weights : OddsFixWeights
odds_fix_weights = λ g ok x z apart m f class pair s within odds. same_weight g ok x z apart m f class pair s within odds
