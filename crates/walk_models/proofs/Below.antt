-- The world of ones where the walk is cut behind visit c.
use Rattle.std.proofs.Common.{ℕ, zero, suc, ◌≡◌, ◌≢◌, ◌<◌, ◌≤◌, ◌⊎◌, inl, inr, Bool, true, false, cond, eqb, ltb, not, ◌&&◌, ◌||◌, nat_lt, refl, sym}
use Rattle.std.proofs.Common.{ap, ap₂, ◌∙◌, arith, lt-ltb, le-ltb, ltb-true, eqb-true}
use Rattle.std.proofs.lemmas.Bool.{cases_lt}
use Rattle.mixed_graph.specs.Vocabulary.{MixedGraph, IsMixedGraph}
use Rattle.m_separation.specs.declared.marks.Mark.{Mark}
use Rattle.m_separation.specs.declared.marks.Mark.TheVariants.{Out, Into, Both}
use Rattle.m_separation.specs.Vocabulary.{heads_first, heads_second}
use Rattle.finite_models.specs.Vocabulary.{FiniteModel, IsSolution, intervene, mask_of, differ}
use Rattle.finite_models.proofs.SumLaws.{eqb-refl}
use Rattle.finite_models.proofs.Bools.{not_both}
use Rattle.walk_models.specs.Visits.{Walk, IsWalkIn, IsPlain, head_before, head_after, is_collider}
use Rattle.walk_models.specs.WalkModels.{coin, is_both, sent_on, sent_back, has_own, bit_of, from_before, from_after, new_bit, walk_model}
use Rattle.finite_models.proofs.Packed.{has-mask}
use Rattle.walk_models.proofs.WalkFits.{mask-congr, when}
use Rattle.walk_models.proofs.Worlds.{mask_none}
use Rattle.walk_models.proofs.Solved.{below_same, and_true, heads, heads_coin}

module _ (g : MixedGraph) (ok : IsMixedGraph g) (p : Walk) (walk : IsWalkIn g p) (plain : IsPlain p) (last many : ℕ) (some : 1 ≤ many) (b : ℕ → Bool)
    (c : ℕ) where
  abbrev m : FiniteModel
  m = walk_model g.vertices p last many

  abbrev ones : ℕ → ℕ
  ones = heads p

  -- 1 at each visit before c that is no collider
  abbrev pub tossed_below : ℕ → ℕ
  tossed_below v = mask_of (λ i. eqb v (p.at i) && (ltb i c && not (is_collider p i))) (suc p.steps)

  pub below_bit : (i : ℕ) → i ≤ p.steps → bit_of p tossed_below i ≡ (ltb i c && not (is_collider p i))
  below_bit i le =
      has-mask (λ j. eqb (p.at i) (p.at j) && (ltb j c && not (is_collider p j))) (suc p.steps) i
      ∙ and_true (eqb (p.at i) (p.at i) && (ltb i c && not (is_collider p i))) (nat_lt i (suc p.steps)) (below_same (suc p.steps) i (omega (arith, le)))
      ∙ ap (λ q. q && (ltb i c && not (is_collider p i))) (eqb-refl (p.at i))

  bit_before : (i : ℕ) → i ≤ p.steps → i < c → bit_of p tossed_below i ≡ not (is_collider p i)
  bit_before i le lt = below_bit i le ∙ ap (λ q. q && not (is_collider p i)) (lt-ltb i c lt)

  -- the last mark before c, if any, isn't <-
  abbrev pub IsCutAt : Type 0
  IsCutAt = (i : ℕ) → suc i ≡ c → p.mark i ≢ Into

  module _ (cut : IsCutAt) where
    new_before : (i : ℕ) → i ≤ p.steps → i < c → new_bit p tossed_below ones i ≡ not (is_collider p i)
    new_before i le low = ap₂ differ (before_is i le low) (ap₂ differ after_is own_is) ∙ joined (head_before p i) (head_after p i) (p.free i) (plain i)
      where
        joined : (h k f : Bool) → f ≡ false → differ h (differ k (not k && (not h || f))) ≡ not (h && k)
        joined true true f e = refl
        joined true false false e = refl
        joined false true f e = refl
        joined false false f e = refl
        joined true false true e = absurd (grind (arith, e))

        before_is : (i : ℕ) → i ≤ p.steps → i < c → from_before p tossed_below ones i ≡ head_before p i
        before_is zero le low = refl
        before_is (suc j) le low = go (p.mark j) refl
          where
            out : (h q : Bool) (k : Mark) → k ≡ Out → not (h && (q && heads_first k)) ≡ true
            out true true Out e = refl
            out true false Out e = refl
            out false q Out e = refl
            out h q Into e = absurd (cc)
            out h q Both e = absurd (cc)

            go : (k : Mark) → p.mark j ≡ k → sent_on k (bit_of p tossed_below j) (coin ones j) ≡ heads_second k
            go Out e = bit_before j (omega (arith, le)) (omega (arith, low)) ∙ out (head_before p j) (ltb j p.steps) (p.mark j) e
            go Into e = refl
            go Both e = heads_coin p j (omega (arith, le)) ∙ rw (e, lt-ltb j p.steps le) refl

        after_is : from_after p tossed_below ones i ≡ head_after p i
        after_is = when (ltb i p.steps) (sent_back (p.mark i) (bit_of p tossed_below (suc i)) (coin ones i)) (heads_first (p.mark i))
            (λ l. go l (p.mark i) refl)
          where
            into : (q : Bool) (k : Mark) → k ≡ Into → not (heads_second k && q) ≡ true
            into q Into e = refl
            into q Out e = absurd (cc)
            into q Both e = absurd (cc)

            before_c : p.mark i ≡ Into → (suc i < c) ⊎ (c ≤ suc i) → suc i < c
            before_c e (inl lt) = lt
            before_c e (inr ge) = absurd (cut i (omega (arith, low, ge)) e)

            go : ltb i p.steps ≡ true → (k : Mark) → p.mark i ≡ k → sent_back k (bit_of p tossed_below (suc i)) (coin ones i) ≡ heads_first k
            go l Out e = refl
            go l Into e = bit_before (suc i) (ltb-true i p.steps l) (before_c e (cases_lt (suc i) c)) ∙ into (head_after p (suc i)) (p.mark i) e
            go l Both e = heads_coin p i le ∙ rw (e, l) refl

        own_is : (has_own p i && coin ones i) ≡ has_own p i
        own_is = ap (λ q. has_own p i && q) (heads_coin p i le) ∙ go (has_own p i) (ltb i p.steps && is_both (p.mark i))
          where
            go : (o q : Bool) → (o && (q || o)) ≡ o
            go true true = refl
            go true false = refl
            go false q = refl

    -- it is a solution where no visit before c is done, and each later one is done or gets 0
    pub below_solves : ((i : ℕ) → i ≤ p.steps → i < c → b (p.at i) ≡ false)
        → ((i : ℕ) → i ≤ p.steps → c ≤ i → b (p.at i) ≡ false → new_bit p tossed_below ones i ≡ false)
        → IsSolution (intervene m b (λ v. 0)) ones tossed_below
    below_solves undone later v lt = go (b v) refl
      where
        go : (q : Bool) → b v ≡ q → tossed_below v ≡ cond q 0 (mask_of (λ i. eqb v (p.at i) && new_bit p tossed_below ones i) (suc p.steps))
        go true e = mask_none (λ i. eqb v (p.at i) && (ltb i c && not (is_collider p i))) (suc p.steps)
            (λ i il. here i (omega (arith, il)) (eqb v (p.at i)) (ltb i c) refl refl)
          where
            here : (i : ℕ) → i ≤ p.steps → (q r : Bool) → eqb v (p.at i) ≡ q → ltb i c ≡ r → (q && (r && not (is_collider p i))) ≡ false
            here i il true true f l = absurd (not_both (b (p.at i)) (ap b (sym (eqb-true v (p.at i) f)) ∙ e) (undone i il (ltb-true i c l)))
            here i il true false f l = refl
            here i il false r f l = refl
        go false e = mask-congr (λ i. eqb v (p.at i) && (ltb i c && not (is_collider p i))) (λ i. eqb v (p.at i) && new_bit p tossed_below ones i) (suc p.steps)
            (λ i il. when (eqb v (p.at i)) (ltb i c && not (is_collider p i)) (new_bit p tossed_below ones i)
            (λ f. here i (omega (arith, il)) f (cases_lt i c)))
          where
            here : (i : ℕ) → i ≤ p.steps → eqb v (p.at i) ≡ true → (i < c) ⊎ (c ≤ i) → (ltb i c && not (is_collider p i)) ≡ new_bit p tossed_below ones i
            here i il f (inl low) = ap (λ q. q && not (is_collider p i)) (lt-ltb i c low) ∙ sym (new_before i il low)
            here i il f (inr ge) = ap (λ q. q && not (is_collider p i)) (le-ltb i c ge) ∙ sym (later i il ge (ap b (sym (eqb-true v (p.at i) f)) ∙ e))

    -- and is 0 on w where w has no visit before c but the colliders
    pub below_blank : (w : ℕ → Bool) → ((i : ℕ) → i ≤ p.steps → i < c → w (p.at i) ≡ is_collider p i) → (v : ℕ) → w v ≡ true → tossed_below v ≡ 0
    below_blank w strict v e = mask_none (λ i. eqb v (p.at i) && (ltb i c && not (is_collider p i))) (suc p.steps)
        (λ i il. here i (omega (arith, il)) (eqb v (p.at i)) (ltb i c) refl refl)
      where
        here : (i : ℕ) → i ≤ p.steps → (q r : Bool) → eqb v (p.at i) ≡ q → ltb i c ≡ r → (q && (r && not (is_collider p i))) ≡ false
        here i il true true f l = ap not (sym (strict i il (ltb-true i c l)) ∙ ap w (sym (eqb-true v (p.at i) f)) ∙ e)
        here i il true false f l = refl
        here i il false r f l = refl
