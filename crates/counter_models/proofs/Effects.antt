-- The weight of the event under the intervention, in both models.
use Rattle.std.proofs.Common.{ℕ, zero, suc, ◌+◌, ◌*◌, ◌^◌, ◌/◌, ◌%◌, ◌≡◌, ◌<◌, ◌≤◌, Bool, true, false, cond, eqb, ltb, not, refl, sym, ap, ap₂, ◌∙◌}
use Rattle.std.proofs.Common.{◌&&◌, length, arith, lt-ltb, ltb-true, ltb-false}
use Rattle.std.proofs.lemmas.Bool.{false_from_ne_true}
use native.Mathlib.Nat.{pow-zero, pow-suc}
use Rattle.mixed_graph.specs.Vocabulary.{MixedGraph, IsMixedGraph}
use Rattle.finite_models.specs.Vocabulary.{product_below, FiniteModel, IsAssignment, solution, intervene, world_weight, differ, odd_below}
use Rattle.finite_models.proofs.Following.{Follows, follows_intervene}
use Rattle.finite_models.proofs.Indicators.{number}
use Rattle.finite_models.proofs.SumLaws.{over-congr}
use Rattle.finite_models.proofs.Solutions.{IsRanked, solution_is}
use Rattle.finite_models.proofs.Bools.{not_both}
use Rattle.finite_models.proofs.Tested.{Test, tested, stable}
use Rattle.counter_models.specs.Parities.{bit, chosen}
use Rattle.counter_models.specs.Hedges.{ParityHedge, IsParityHedge, links_of, privates}
use Rattle.counter_models.specs.ParityPairs.{value, hedge_bit, carried_bit, world_bit, at_second, chooses, first_bit, second_bit, carries, top_bit}
use Rattle.counter_models.specs.ParityPairs.{first_mechanism, second_mechanism, event_odd, cause_weight, counter_model, event_even}
use Rattle.counter_models.proofs.Truths.{cond_true, cond_false}
use Rattle.counter_models.proofs.ParityLaws.{differ-comm, differ-false, odd-congr, odd-differ}
use Rattle.counter_models.proofs.HedgeBits.{crossing, crosses, crossing_by_causes, Crossed, some_crosses}
use Rattle.counter_models.proofs.Counting.{count, whole, gap, halves}
use Rattle.counter_models.proofs.Counter.{hedge_of, carried_of, pushed, odd_none, product_zero}
use Rattle.counter_models.proofs.Event.{Good, carried_sum, second_roots, first_roots, good_outside, small_good}

abbrev pub extra_weight : ParityHedge → ℕ → ℕ
extra_weight d j = cond (ltb j (links_of d)) 0 2

pub larger : (d : ParityHedge) (j : ℕ) → cause_weight d j 0 ≡ cause_weight d j 1 + extra_weight d j
larger d j = go (ltb j (links_of d))
  where
    go : (c : Bool) → cond c 1 3 ≡ cond c 1 1 + cond c 0 2
    go true = refl
    go false = refl

pub product_same : (k c : ℕ) (f : ℕ → ℕ) → ((i : ℕ) → i < k → f i ≡ c) → product_below k f ≡ c ^ k
product_same zero c f h = sym (pow-zero c)
product_same (suc k) c f h = ap₂ (λ p q. p * q) (product_same k c f (λ i lt. h i (omega arith))) (h k (omega arith)) ∙ sym (pow-suc c k)

right : (p q b : Bool) → differ (p && b) (q && b) ≡ (differ p q && b)
right true true true = refl
right true true false = refl
right true false true = refl
right true false false = refl
right false q b = refl

turned : (p c : Bool) → not (differ p c) ≡ not (differ (differ p c) false)
turned p c = ap not (sym (differ-false (differ p c)))

not_even : (p c : Bool) → not (differ p c) ≡ not (differ c p)
not_even p c = ap not (differ-comm p c)

module _ (g : MixedGraph) (x : ℕ → Bool) (d : ParityHedge) (ok : IsParityHedge g x d) (rank : ℕ → ℕ) (is_graph : IsMixedGraph g) (ranked : IsRanked g rank)
    (serves : ℕ → ℕ → Bool) (a : ℕ → ℕ) where
  small_apart : (j : ℕ) → j < links_of d → privates g.vertices d j ≡ false
  small_apart j lt = ap₂ differ
      (odd_none g.vertices d.small d.small_cause j (λ v e s. let h = ok.own_high v e in omega arith))
      (odd_none g.vertices d.kept d.kept_cause j (λ v e s. let h = ok.top_high v e in omega arith))

  privates_sum : (u : ℕ → ℕ) → differ (odd_below g.vertices (λ v. d.small v && world_bit u (d.small_cause v)))
      (odd_below g.vertices (λ v. d.kept v && world_bit u (d.kept_cause v)))
      ≡ odd_below d.causes (λ j. privates g.vertices d j && bit (u j))
  privates_sum u =
      ap₂ differ (pushed g.vertices d.causes d.small d.small_cause (world_bit u) ok.own_low)
      (pushed g.vertices d.causes d.kept d.kept_cause (world_bit u) ok.top_low)
      ∙ sym (odd-differ d.causes (λ j. odd_below g.vertices (λ v. d.small v && eqb j (d.small_cause v)) && bit (u j))
      (λ j. odd_below g.vertices (λ v. d.kept v && eqb j (d.kept_cause v)) && bit (u j)))
      ∙ odd-congr d.causes (λ j. differ (odd_below g.vertices (λ v. d.small v && eqb j (d.small_cause v)) && bit (u j))
      (odd_below g.vertices (λ v. d.kept v && eqb j (d.kept_cause v)) && bit (u j)))
      (λ j. privates g.vertices d j && bit (u j)) (λ j lt. right (odd_below g.vertices (λ v. d.small v && eqb j (d.small_cause v)))
      (odd_below g.vertices (λ v. d.kept v && eqb j (d.kept_cause v))) (bit (u j)))

  -- ---- a model whose mechanisms give the hedge's bit by h
  module _ (mechanism : ℕ → (ℕ → ℕ) → (ℕ → ℕ) → ℕ) (h : (ℕ → ℕ) → (ℕ → ℕ) → ℕ → Bool)
      (is : (v : ℕ) (s u : ℕ → ℕ) → mechanism v s u ≡ value (d.big v) (d.kept v) (h s u v) (top_bit g.vertices d s u (h s u v) v))
      (within : IsAssignment g.vertices (λ v. cond (d.big v) (cond (d.kept v) 4 2) (cond (d.kept v) 2 1)) a)
      (fit : Follows g (counter_model g.vertices d serves mechanism)) where
    abbrev solved : (ℕ → ℕ) → ℕ → ℕ
    solved u = solution (intervene (counter_model g.vertices d serves mechanism) x a) u

    abbrev top : (ℕ → ℕ) → ℕ → Bool
    top u v = top_bit g.vertices d (solved u) u (h (solved u) u v) v

    sol_at : (u : ℕ → ℕ) (v : ℕ) → v < g.vertices → solved u v ≡ cond (x v) (a v) (mechanism v (solved u) u)
    sol_at u v lt = solution_is g (intervene (counter_model g.vertices d serves mechanism) x a) rank ranked
        (follows_intervene g (counter_model g.vertices d serves mechanism) x a within fit) u v lt

    outside_at : (u : ℕ → ℕ) (v : ℕ) → v < g.vertices → x v ≡ false → solved u v ≡ value (d.big v) (d.kept v) (h (solved u) u v) (top u v)
    outside_at u v lt o = sol_at u v lt ∙ cond_false (x v) (a v) (mechanism v (solved u) u) o ∙ is v (solved u) u

    hedge_equation : (u : ℕ → ℕ) (v : ℕ) → v < g.vertices → d.big v ≡ true → x v ≡ false → hedge_bit d (solved u) v ≡ h (solved u) u v
    hedge_equation u v lt b o =
        ap (λ r. bit (r % 2)) (outside_at u v lt o) ∙ ap (λ r. bit (value r (d.kept v) (h (solved u) u v) (top u v) % 2)) b
        ∙ hedge_of (d.kept v) (h (solved u) u v) (top u v)

    carried_equation : (u : ℕ → ℕ) (v : ℕ) → v < g.vertices → d.kept v ≡ true → carried_bit d (solved u) v
        ≡ differ (chosen g.vertices (carries d) d.carry (carried_bit d (solved u)) v)
        (differ (d.roots v && hedge_bit d (solved u) v) (world_bit u (d.kept_cause v)))
    carried_equation u v lt k =
        ap (λ r. cond (d.big v) (bit (r / 2)) (bit r)) (outside_at u v lt (ok.kept_outside v k))
        ∙ ap (λ r. cond (d.big v) (bit (value (d.big v) r (h (solved u) u v) (top u v) / 2)) (bit (value (d.big v) r (h (solved u) u v) (top u v)))) k
        ∙ carried_of (d.big v) (h (solved u) u v) (top u v)
        ∙ ap (λ r. differ (chosen g.vertices (carries d) d.carry (carried_bit d (solved u)) v) (differ r (world_bit u (d.kept_cause v))))
        (own (d.roots v) (λ r. sym (hedge_equation u v lt (ok.small_big v (ok.roots_small v r)) (ok.kept_outside v k))))
      where
        own : (r : Bool) → (r ≡ true → h (solved u) u v ≡ hedge_bit d (solved u) v) → (r && h (solved u) u v) ≡ (r && hedge_bit d (solved u) v)
        own true e = e refl
        own false e = refl

  -- ---- the first model
  module _ (within : IsAssignment g.vertices (λ v. cond (d.big v) (cond (d.kept v) 4 2) (cond (d.kept v) 2 1)) a)
      (fit : Follows g (counter_model g.vertices d serves (first_mechanism g.vertices d))) where
    abbrev M1 : FiniteModel
    M1 = counter_model g.vertices d serves (first_mechanism g.vertices d)

    -- all causes of the event's parity, for a test of the good vertices
    abbrev all_causes : (ℕ → Bool) → ℕ → Bool
    all_causes G j = differ (crosses (length d.inner) d.outer G j) (privates g.vertices d j)

    abbrev constant : (ℕ → Bool) → Bool
    constant G = odd_below g.vertices (λ v. ((chooses d d.big v && G (d.choice v)) && not (G v)) && hedge_bit d a v)

    event_parity : (G : ℕ → Bool) → ((v : ℕ) → G v ≡ true → Good d x v) → ((v : ℕ) → v < g.vertices → Good d x v → G v ≡ true) → (u : ℕ → ℕ)
        → event_odd g.vertices d (solution (intervene M1 x a) u) ≡ differ (odd_below d.causes (λ j. all_causes G j && bit (u j))) (constant G)
    event_parity G sound complete u =
        carried_sum g x d ok rank ranked.rises ranked.low is_graph.tail_below is_graph.head_below (solution (intervene M1 x a) u) u
        (carried_equation (first_mechanism g.vertices d) (first_bit g.vertices d) (λ w s r. refl) within fit u)
        ∙ ap (λ r. differ r (odd_below g.vertices (λ v. d.kept v && world_bit u (d.kept_cause v))))
        (first_roots g x d ok rank ranked.rises ranked.low is_graph.tail_below is_graph.head_below G sound (λ v b. complete v (ok.big_low v b))
        (λ v e. complete v (ok.big_low v (ok.small_big v e)) (small_good g x d ok rank ranked.rises ranked.low is_graph.tail_below is_graph.head_below
        g.vertices v e (omega arith) (ok.big_low v (ok.small_big v e)))) (solution (intervene M1 x a) u) u a
        (hedge_equation (first_mechanism g.vertices d) (first_bit g.vertices d) (λ w s r. refl) within fit u)
        (λ v lt e. sol_at (first_mechanism g.vertices d) (first_bit g.vertices d) (λ w s r. refl) within fit u v lt
        ∙ cond_true (x v) (a v) (first_mechanism g.vertices d v (solution (intervene M1 x a) u) u) e))
        ∙ shuffle (constant G) (crossing (length d.inner) d.outer G (world_bit u)) (odd_below g.vertices (λ v. d.small v && world_bit u (d.small_cause v)))
        (odd_below g.vertices (λ v. d.kept v && world_bit u (d.kept_cause v)))
        ∙ ap (λ r. differ r (constant G))
        (ap₂ differ (crossing_by_causes d.causes (length d.inner) d.outer G (world_bit u) ok.links_low) (privates_sum u)
        ∙ sym (odd-differ d.causes (λ j. crosses (length d.inner) d.outer G j && bit (u j)) (λ j. privates g.vertices d j && bit (u j)))
        ∙ odd-congr d.causes (λ j. differ (crosses (length d.inner) d.outer G j && bit (u j)) (privates g.vertices d j && bit (u j)))
        (λ j. all_causes G j && bit (u j))
        (λ j lt. right (crosses (length d.inner) d.outer G j) (privates g.vertices d j) (bit (u j))))
      where
        shuffle : (c l o t : Bool) → differ (differ c (differ l o)) t ≡ differ (differ l (differ o t)) c
        shuffle true true true true = refl
        shuffle true true true false = refl
        shuffle true true false true = refl
        shuffle true true false false = refl
        shuffle true false true true = refl
        shuffle true false true false = refl
        shuffle true false false true = refl
        shuffle true false false false = refl
        shuffle false true true true = refl
        shuffle false true true false = refl
        shuffle false true false true = refl
        shuffle false true false false = refl
        shuffle false false true true = refl
        shuffle false false true false = refl
        shuffle false false false true = refl
        shuffle false false false false = refl

    -- the event has half of the whole weight, whatever the value of x
    pub first_event : 2 * event_even M1 d x a ≡ whole (cause_weight d) (extra_weight d) (larger d) (λ j. true) d.causes
    first_event =
        stable (2 * event_even M1 d x a) (whole (cause_weight d) (extra_weight d) (larger d) (λ j. true) d.causes)
        (λ unequal. tested (Good d x) g.vertices (λ G. unequal (from G)))
      where
        from : Test (Good d x) g.vertices → 2 * event_even M1 d x a ≡ whole (cause_weight d) (extra_weight d) (larger d) (λ j. true) d.causes
        from G =
            ap (λ r. 2 * r)
            (over-congr (λ j. true) (λ j. 2) d.causes (λ u. world_weight M1 u * number (not (event_odd g.vertices d (solution (intervene M1 x a) u))))
            (λ u. world_weight M1 u * number (not (differ (odd_below d.causes (λ j. all_causes G.test j && bit (u j))) (constant G.test)))) (λ j. 0)
            (λ u. ap (λ r. world_weight M1 u * number (not r)) (event_parity G.test G.sound G.complete u)))
            ∙ pick (constant G.test) (halves (cause_weight d) (extra_weight d) (larger d) (all_causes G.test) d.causes (λ j. 0))
          where
            crossed : Crossed (length d.inner) d.outer G.test
            crossed = some_crosses (length d.inner) d.outer d.small G.test ok.cut
                (λ v e. G.complete v (ok.big_low v (ok.small_big v e))
                (small_good g x d ok rank ranked.rises ranked.low is_graph.tail_below is_graph.head_below g.vertices v e (omega arith)
                (ok.big_low v (ok.small_big v e))))
                ok.outer_rooted ok.cut_listed
                (false_from_ne_true (G.test ok.cut) (λ t. not_both (x ok.cut) ok.cut_x
                (good_outside g x d ok rank ranked.rises ranked.low is_graph.tail_below is_graph.head_below ok.cut (G.sound ok.cut t))))

            place_low : crossed.place < d.causes
            place_low = omega (arith, crossed.to, ok.links_low)

            no_gap : gap (cause_weight d) (extra_weight d) (larger d) (all_causes G.test) d.causes ≡ 0
            no_gap = product_zero d.causes (λ j. cond (all_causes G.test j) (extra_weight d j) (cause_weight d j 0 + cause_weight d j 1))
                crossed.place place_low
                (let link : crossed.place < links_of d = crossed.to in
                rw (crossed.crossed, small_apart crossed.place link, lt-ltb crossed.place (links_of d) link) refl)

            pick : (c : Bool) → (2 * count (cause_weight d) (extra_weight d) (larger d) (all_causes G.test) d.causes false (λ j. 0)
                ≡ whole (cause_weight d) (extra_weight d) (larger d) (all_causes G.test) d.causes
                + gap (cause_weight d) (extra_weight d) (larger d) (all_causes G.test) d.causes)
                × (2 * count (cause_weight d) (extra_weight d) (larger d) (all_causes G.test) d.causes true (λ j. 0)
                + gap (cause_weight d) (extra_weight d) (larger d) (all_causes G.test) d.causes
                ≡ whole (cause_weight d) (extra_weight d) (larger d) (all_causes G.test) d.causes)
                → 2 * count (cause_weight d) (extra_weight d) (larger d) (all_causes G.test) d.causes c (λ j. 0)
                ≡ whole (cause_weight d) (extra_weight d) (larger d) (all_causes G.test) d.causes
            pick false h = h.0 ∙ rw no_gap (omega arith)
            pick true h = omega (arith, h.1, no_gap)

  -- ---- the second model
  module _ (within : IsAssignment g.vertices (λ v. cond (d.big v) (cond (d.kept v) 4 2) (cond (d.kept v) 2 1)) a)
      (fit : Follows g (counter_model g.vertices d serves (second_mechanism g.vertices d)))
      -- each cause that is no link is the own cause of one vertex of small or the top cause of one kept vertex
      (once : (j : ℕ) → links_of d ≤ j → j < d.causes → privates g.vertices d j ≡ true) where
    abbrev M2 : FiniteModel
    M2 = counter_model g.vertices d serves (second_mechanism g.vertices d)

    small_equation2 : (u : ℕ → ℕ) (v : ℕ) → v < g.vertices → d.small v ≡ true → hedge_bit d (solution (intervene M2 x a) u) v
        ≡ differ (chosen g.vertices (chooses d d.small) d.choice (hedge_bit d (solution (intervene M2 x a) u)) v) (at_second d (world_bit u) v)
    small_equation2 u v lt e =
        hedge_equation (second_mechanism g.vertices d) (second_bit g.vertices d) (λ w s r. refl) within fit u v lt (ok.small_big v e) (ok.small_outside v e)
        ∙ cond_true (d.small v) (differ (chosen g.vertices (chooses d d.small) d.choice (hedge_bit d (solution (intervene M2 x a) u)) v)
        (at_second d (world_bit u) v)) (first_bit g.vertices d (solution (intervene M2 x a) u) u v) e

    event_parity2 : (u : ℕ → ℕ) → event_odd g.vertices d (solution (intervene M2 x a) u) ≡ odd_below d.causes (λ j. privates g.vertices d j && bit (u j))
    event_parity2 u =
        carried_sum g x d ok rank ranked.rises ranked.low is_graph.tail_below is_graph.head_below (solution (intervene M2 x a) u) u
        (carried_equation (second_mechanism g.vertices d) (second_bit g.vertices d) (λ w s r. refl) within fit u)
        ∙ ap (λ r. differ r (odd_below g.vertices (λ v. d.kept v && world_bit u (d.kept_cause v))))
        (second_roots g x d ok rank ranked.rises ranked.low is_graph.tail_below is_graph.head_below (solution (intervene M2 x a) u) u (small_equation2 u))
        ∙ privates_sum u

    -- twice the event is the whole weight and 2 to the number of causes
    pub second_event : 2 * event_even M2 d x a ≡ whole (cause_weight d) (extra_weight d) (larger d) (λ j. true) d.causes + 2 ^ d.causes
    second_event =
        ap (λ r. 2 * r)
        (over-congr (λ j. true) (λ j. 2) d.causes (λ u. world_weight M2 u * number (not (event_odd g.vertices d (solution (intervene M2 x a) u))))
        (λ u. world_weight M2 u * number (not (differ (odd_below d.causes (λ j. privates g.vertices d j && bit (u j))) false))) (λ j. 0)
        (λ u. ap (λ r. world_weight M2 u * number (not r)) (event_parity2 u
        ∙ sym (differ-false (odd_below d.causes (λ j. privates g.vertices d j && bit (u j)))))))
        ∙ (halves (cause_weight d) (extra_weight d) (larger d) (privates g.vertices d) d.causes (λ j. 0)).0
        ∙ ap (λ r. whole (cause_weight d) (extra_weight d) (larger d) (λ j. true) d.causes + r)
        (product_same d.causes 2 (λ j. cond (privates g.vertices d j) (extra_weight d j) (cause_weight d j 0 + cause_weight d j 1))
        (λ j lt. factor j lt (ltb j (links_of d)) refl))
      where
        factor : (j : ℕ) → j < d.causes → (c : Bool) → ltb j (links_of d) ≡ c
            → cond (privates g.vertices d j) (extra_weight d j) (cause_weight d j 0 + cause_weight d j 1) ≡ 2
        factor j lt true e = let q : privates g.vertices d j ≡ false = small_apart j (ltb-true j (links_of d) e) in rw (q, e) refl
        factor j lt false e = let q : privates g.vertices d j ≡ true = once j (ltb-false j (links_of d) e) lt in rw (q, e) refl
