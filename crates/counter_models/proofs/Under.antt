-- The two counter-models give each assignment the same weight under an intervention that meets big nowhere, or small somewhere.
use Rattle.std.proofs.Common.{ℕ, zero, suc, ◌+◌, ◌*◌, ◌%◌, ◌≡◌, ◌<◌, ◌≤◌, ◌⊎◌, inl, inr, Bool, true, false, cond, eqb, ltb, not, refl, sym, ap, ap₂}
use Rattle.std.proofs.Common.{◌∙◌, ◌||◌, ◌&&◌, List, [], ◌∷◌, length, arith, ne_eqb, eqb-true, eq-eqb, lt-ltb, ltb-true, ltb-false}
use Rattle.std.proofs.lemmas.Bool.{and_from, false_from_ne_true}
use mathlib.Core.Path.{fun_ext}
use Rattle.mixed_graph.specs.Vocabulary.{MixedGraph, IsMixedGraph}
use Rattle.finite_models.specs.Vocabulary.{sum_over, product_below, all_below, FiniteModel, IsAssignment, intervene, weight_of, differ, odd_below}
use Rattle.finite_models.proofs.Following.{Follows, follows_intervene}
use Rattle.finite_models.proofs.Indicators.{number, number-all, all_below_each, all_below_from}
use Rattle.finite_models.proofs.Bools.{and_first, and_second, same_truth, not_both}
use Rattle.finite_models.proofs.SumLaws.{over-congr, over-join, product_below-congr}
use Rattle.finite_models.proofs.Solutions.{IsRanked}
use Rattle.finite_models.proofs.Factors.{weight_by_checks}
use Rattle.counter_models.specs.Parities.{bit, chosen}
use Rattle.counter_models.specs.Links.{Link, at_vertex, AreInside}
use Rattle.counter_models.specs.Hedges.{ParityHedge, IsParityHedge, links_of, outsider, AreOuter, IsTree}
use Rattle.counter_models.specs.ParityPairs.{value, hedge_bit, carried_bit, world_bit, at_first, at_second, chooses, first_bit, second_bit, carries}
use Rattle.counter_models.specs.ParityPairs.{top_bit, first_mechanism, second_mechanism, cause_weight, counter_model, size_of}
use Rattle.counter_models.proofs.Truths.{cond_false, not_true}
use Rattle.counter_models.proofs.ParityLaws.{differ-assoc, differ-comm, differ-false, differ-self, differ-swap, odd-congr, odd-differ, odd-one}
use Rattle.counter_models.proofs.ParityLaws.{and-differ, fibres}
use Rattle.counter_models.proofs.Solve.{at_vertex-congr, residual, bits, met, settled, kept_parity}
use Rattle.counter_models.proofs.HedgeBits.{group_sum, links_sum, crossing}
use Rattle.counter_models.proofs.Counting.{flip, flip_value, over-flip, over-congr_box}
use Rattle.counter_models.proofs.Counter.{hedge_of}

ne_of : (i n : ℕ) → eqb i n ≡ false → i ≡ n → ⊥
ne_of i n e s = grind (arith, s, e)

-- what more is wanted of the inner links at v in the first model
abbrev pub wanted : ℕ → ParityHedge → (ℕ → ℕ) → (ℕ → ℕ) → ℕ → Bool
wanted n d a u v = d.small v && differ (chosen n (outsider d) d.choice (hedge_bit d a) v) (at_vertex (length d.inner) d.outer (world_bit u) v)

crossing_alike : (d : ParityHedge) (k : ℕ) (r : List Link) (w : ℕ → Bool) → AreOuter d r → crossing k r (outsider d) w ≡ crossing k r d.small w
crossing_alike d k [] w h = refl
crossing_alike d k (p ∷ r) w h = ap₂ (λ q t. differ (q && w k) t) (at (d.big p.entry) (d.small p.entry) (d.big p.partner) (d.small p.partner) h.0 h.1)
    (crossing_alike d (suc k) r w h.2)
  where
    at : (b s b' s' : Bool) → (b && not s) ≡ true → b' ≡ true → differ (b && not s) (b' && not s') ≡ differ s s'
    at true true b' s' e f = absurd (grind (arith, e))
    at true false true true e f = refl
    at true false true false e f = refl
    at true false false s' e f = absurd (grind (arith, f))
    at false s b' s' e f = absurd (grind (arith, e))

-- no inner pair has an end outside small
inner_away : (k : ℕ) (r : List Link) (S : ℕ → Bool) (w : ℕ → Bool) (v : ℕ) → AreInside S r → S v ≡ false → at_vertex k r w v ≡ false
inner_away k [] S w v h o = refl
inner_away k (p ∷ r) S w v h o =
    let e : eqb v p.entry ≡ false = ne_eqb v p.entry (λ q. not_both (S v) (ap S q ∙ h.0) o) in
    let f : eqb v p.partner ≡ false = ne_eqb v p.partner (λ q. not_both (S v) (ap S q ∙ h.1) o) in
    rw (e, f) (inner_away (suc k) r S w v h.2 o)

away_residual : (r : List Link) (S : ℕ → Bool) (t : ℕ → Bool) (v : ℕ) → AreInside S r → S v ≡ false → residual r t v ≡ t v
away_residual [] S t v h o = refl
away_residual (p ∷ r) S t v h o =
    let e : eqb v p.entry ≡ false = ne_eqb v p.entry (λ q. not_both (S v) (ap S q ∙ h.0) o) in
    let f : eqb v p.partner ≡ false = ne_eqb v p.partner (λ q. not_both (S v) (ap S q ∙ h.1) o) in
    rw (e, f) (differ-false (residual r t v) ∙ away_residual r S t v h.2 o)

bits_low : (k : ℕ) (r : List Link) (t : ℕ → Bool) (j : ℕ) → bits k r t j ≡ true → j < k + length r
bits_low k [] t j e = absurd (grind (arith, e))
bits_low k (p ∷ r) t j e = go (eqb j k) refl e (bits_low (suc k) r t j)
  where
    go : (c : Bool) → eqb j k ≡ c → cond c (residual r t p.entry) (bits (suc k) r t j) ≡ true → (bits (suc k) r t j ≡ true → j < suc k + length r) → j < k
        + suc (length r)
    go true q e ih = omega (arith, eqb-true j k q)
    go false q e ih = omega (arith, ih e)

at_vertex-flip : (k : ℕ) (r : List Link) (x y : ℕ → Bool) (v : ℕ) → at_vertex k r (λ j. differ (x j) (y j)) v ≡ differ (at_vertex k r x v) (at_vertex k r y v)
at_vertex-flip k [] x y v = refl
at_vertex-flip k (p ∷ r) x y v =
    ap₂ differ (and-differ (differ (eqb v p.entry) (eqb v p.partner)) (x k) (y k)) (at_vertex-flip (suc k) r x y v)
    ∙ differ-swap (differ (eqb v p.entry) (eqb v p.partner) && x k) (differ (eqb v p.entry) (eqb v p.partner) && y k) (at_vertex (suc k) r x v)
    (at_vertex (suc k) r y v)

flipped_bit : (b : Bool) (x : ℕ) → x < 2 → bit (flip_value b x) ≡ differ (bit x) b
flipped_bit false x lt = sym (differ-false (bit x))
flipped_bit true zero lt = refl
flipped_bit true (suc zero) lt = refl
flipped_bit true (suc (suc x)) lt = absurd (omega arith)

-- what is wanted, and at r what is left of the parity
abbrev pub target : ℕ → ParityHedge → (r : ℕ) → (ℕ → ℕ) → (ℕ → ℕ) → ℕ → Bool
target n d r a u v = differ (wanted n d a u v) (d.small v && (eqb v r && odd_below n (wanted n d a u)))

-- the intervention on z meets no member of big; or r, in small, is set by it
abbrev pub LeavesAgreement : ParityHedge → (z : ℕ → Bool) → (r : ℕ) → Type 0
LeavesAgreement d z r = ((v : ℕ) → d.big v ≡ true → z v ≡ false) ⊎ ((d.small r ≡ true) × (z r ≡ true))

module _ (g : MixedGraph) (x : ℕ → Bool) (d : ParityHedge) (ok : IsParityHedge g x d) (tree : IsTree g.vertices d) (is_graph : IsMixedGraph g) (a : ℕ → ℕ)
    (cuts : ℕ → Bool) (root : ℕ) (leaves : LeavesAgreement d cuts root) where
  chooses_low : (u : ℕ) → chooses d d.big u ≡ true → d.choice u < g.vertices
  chooses_low u e = is_graph.head_below u (d.choice u) (ok.choice_arrow u (and_first (d.big u) (not (d.roots u)) e)
      (not_true (d.roots u) (and_second (d.big u) (not (d.roots u)) e)))

  outsider_chooses : (u : ℕ) → outsider d u ≡ true → chooses d d.big u ≡ true
  outsider_chooses u e = and_from (d.big u) (not (d.roots u)) (and_first (d.big u) (not (d.small u)) e)
      (let r : d.roots u ≡ false = false_from_ne_true (d.roots u) (λ q. not_both (d.small u) (ok.roots_small u q)
      (not_true (d.small u) (and_second (d.big u) (not (d.small u)) e))) in rw r refl)

  -- the equations of the outsiders hold in the world u
  abbrev Outer : (ℕ → ℕ) → Type 0
  Outer u = (v : ℕ) → v < g.vertices → outsider d v ≡ true → hedge_bit d a v ≡ first_bit g.vertices d a u v

  -- A3: then an even number of more bits is wanted
  even_wanted : (u : ℕ → ℕ) → Outer u → odd_below g.vertices (wanted g.vertices d a u) ≡ false
  even_wanted u eq =
      odd-congr g.vertices (wanted g.vertices d a u) (λ v. differ (d.small v && chosen g.vertices (outsider d) d.choice h v)
      (d.small v && at_vertex (length d.inner) d.outer w v))
      (λ v lt. and-differ (d.small v) (chosen g.vertices (outsider d) d.choice h v) (at_vertex (length d.inner) d.outer w v))
      ∙ odd-differ g.vertices (λ v. d.small v && chosen g.vertices (outsider d) d.choice h v) (λ v. d.small v && at_vertex (length d.inner) d.outer w v)
      ∙ ap₂ differ (fibres g.vertices d.small (outsider d) d.choice h (λ v e. chooses_low v (outsider_chooses v e)) ∙ into_small)
      (links_sum g.vertices (length d.inner) d.outer d.small w ok.outer_low)
      ∙ differ-self (crossing (length d.inner) d.outer d.small w)
    where
      h : ℕ → Bool
      h = hedge_bit d a

      w : ℕ → Bool
      w = world_bit u

      by_choice : (o s c : Bool) (b : Bool) → (o ≡ true → differ s c ≡ true) → (o && b) ≡ differ (o && (s && b)) (o && (c && b))
      by_choice true true true b k = absurd (grind (arith, k refl))
      by_choice true true false true k = refl
      by_choice true true false false k = refl
      by_choice true false true b k = refl
      by_choice true false false b k = absurd (grind (arith, k refl))
      by_choice false s c b k = refl

      one_of : (b s : Bool) → b ≡ true → differ (b && not s) s ≡ true
      one_of true true e = refl
      one_of true false e = refl
      one_of false s e = absurd (grind (arith, e))

      outs : (u : ℕ) → (chooses d d.big u && (outsider d (d.choice u) && h u)) ≡ (outsider d u && (outsider d (d.choice u) && h u))
      outs u = at (d.big u) (d.small u) (d.roots u) (outsider d (d.choice u)) (h u) (ok.roots_small u) (ok.small_big u)
          (λ s r. false_from_ne_true (outsider d (d.choice u)) (λ o. not_both (d.small (d.choice u)) (ok.choice_small u s r)
          (not_true (d.small (d.choice u)) (and_second (d.big (d.choice u)) (not (d.small (d.choice u))) o))))
        where
          at : (b s r o k : Bool) → (r ≡ true → s ≡ true) → (s ≡ true → b ≡ true) → (s ≡ true → r ≡ false → o ≡ false) → ((b && not r) && (o && k))
              ≡ ((b && not s) && (o && k))
          at true true true o k f p q = refl
          at true true false o k f p q = rw (q refl refl) refl
          at true false true o k f p q = absurd (grind (arith, f refl))
          at true false false o k f p q = refl
          at false s r o k f p q = refl

      -- the outsiders' own equations, summed
      summed : odd_below g.vertices (λ v. outsider d v && h v) ≡ differ (odd_below g.vertices (λ u. outsider d u && (outsider d (d.choice u) && h u)))
          (crossing (length d.inner) d.outer d.small w)
      summed =
          group_sum g.vertices (outsider d) (chooses d d.big) d.choice h (at_first d w) chooses_low eq
          ∙ ap₂ differ (odd-congr g.vertices (λ u. chooses d d.big u && (outsider d (d.choice u) && h u))
          (λ u. outsider d u && (outsider d (d.choice u) && h u)) (λ u lt. outs u))
          (odd-congr g.vertices (λ v. outsider d v && at_first d w v) (λ v. outsider d v && at_vertex (length d.inner) d.outer w v)
          (λ v lt. own v (outsider d v) refl)
          ∙ links_sum g.vertices (length d.inner) d.outer (outsider d) w ok.outer_low
          ∙ crossing_alike d (length d.inner) d.outer w tree.outer)
        where
          own : (v : ℕ) (o : Bool) → outsider d v ≡ o → (o && at_first d w v) ≡ (o && at_vertex (length d.inner) d.outer w v)
          own v false e = refl
          own v true e =
              let s : d.small v ≡ false = not_true (d.small v) (and_second (d.big v) (not (d.small v)) e) in
              ap₂ (λ p q. differ (differ p (at_vertex (length d.inner) d.outer w v)) (q && w (d.small_cause v)))
              (inner_away 0 d.inner d.small w v ok.inner_inside s) s
              ∙ differ-false (at_vertex (length d.inner) d.outer w v)

      cancel : (p q c : Bool) → differ p q ≡ differ p c → q ≡ c
      cancel true true true e = refl
      cancel true true false e = absurd (grind (arith, e))
      cancel true false true e = absurd (grind (arith, e))
      cancel true false false e = refl
      cancel false q c e = e

      into_small : odd_below g.vertices (λ u. outsider d u && (d.small (d.choice u) && h u)) ≡ crossing (length d.inner) d.outer d.small w
      into_small =
          cancel (odd_below g.vertices (λ u. outsider d u && (outsider d (d.choice u) && h u)))
          (odd_below g.vertices (λ u. outsider d u && (d.small (d.choice u) && h u))) (crossing (length d.inner) d.outer d.small w)
          (sym (odd-differ g.vertices (λ u. outsider d u && (outsider d (d.choice u) && h u)) (λ u. outsider d u && (d.small (d.choice u) && h u)))
          ∙ odd-congr g.vertices (λ u. differ (outsider d u && (outsider d (d.choice u) && h u)) (outsider d u && (d.small (d.choice u) && h u)))
          (λ u. outsider d u && h u)
          (λ u lt. sym (by_choice (outsider d u) (outsider d (d.choice u)) (d.small (d.choice u)) (h u)
          (λ e. let c = outsider_chooses u e in one_of (d.big (d.choice u)) (d.small (d.choice u))
          (ok.choice_big u (and_first (d.big u) (not (d.roots u)) c) (not_true (d.roots u) (and_second (d.big u) (not (d.roots u)) c))))))
          ∙ summed)

  -- what is left over is even
  by_root : (u : ℕ → ℕ) → d.small root ≡ true → odd_below g.vertices (target g.vertices d root a u) ≡ false
  by_root u s =
      odd-differ g.vertices (wanted g.vertices d a u) (λ v. d.small v && (eqb v root && odd_below g.vertices (wanted g.vertices d a u)))
      ∙ ap (differ (odd_below g.vertices (wanted g.vertices d a u)))
      (odd-congr g.vertices (λ v. d.small v && (eqb v root && odd_below g.vertices (wanted g.vertices d a u)))
      (λ v. eqb v root && odd_below g.vertices (wanted g.vertices d a u)) (λ v lt. own v (eqb v root) refl)
      ∙ odd-one g.vertices root (λ v. odd_below g.vertices (wanted g.vertices d a u)) (ok.big_low root (ok.small_big root s)))
      ∙ differ-self (odd_below g.vertices (wanted g.vertices d a u))
    where
      own : (v : ℕ) (c : Bool) → eqb v root ≡ c → (d.small v && (c && odd_below g.vertices (wanted g.vertices d a u)))
          ≡ (c && odd_below g.vertices (wanted g.vertices d a u))
      own v true e = let f : d.small v ≡ true = ap d.small (eqb-true v root e) ∙ s in rw f refl
      own v false e = none (d.small v)
        where
          none : (c : Bool) → (c && false) ≡ false
          none true = refl
          none false = refl

  -- where nothing is left over, or v isn't r, the target is what is wanted
  same_target : (u : ℕ → ℕ) (v : ℕ) → (eqb v root && odd_below g.vertices (wanted g.vertices d a u)) ≡ false
      → target g.vertices d root a u v ≡ wanted g.vertices d a u v
  same_target u v e = rw e (last (d.small v) (wanted g.vertices d a u v))
    where
      last : (c w : Bool) → differ w (c && false) ≡ w
      last true w = differ-false w
      last false w = differ-false w

  by_outer : (u : ℕ → ℕ) → odd_below g.vertices (wanted g.vertices d a u) ≡ false → odd_below g.vertices (target g.vertices d root a u) ≡ false
  by_outer u e = odd-congr g.vertices (target g.vertices d root a u) (wanted g.vertices d a u) (λ v lt. same_target u v (rw e (none (eqb v root)))) ∙ e
    where
      none : (c : Bool) → (c && false) ≡ false
      none true = refl
      none false = refl

  -- A4: the inner bits that are to be flipped meet what is wanted
  solved : (u : ℕ → ℕ) → odd_below g.vertices (target g.vertices d root a u) ≡ false → (v : ℕ) → d.small v ≡ true
      → at_vertex 0 d.inner (bits 0 d.inner (target g.vertices d root a u)) v ≡ target g.vertices d root a u v
  solved u eq v s =
      sym (differ-false (at_vertex 0 d.inner (bits 0 d.inner (target g.vertices d root a u)) v))
      ∙ ap (differ (at_vertex 0 d.inner (bits 0 d.inner (target g.vertices d root a u)) v)) (sym (nothing v s))
      ∙ met 0 d.inner (target g.vertices d root a u) v tree.apart
    where
      t : ℕ → Bool
      t = target g.vertices d root a u

      elsewhere : (v : ℕ) → (v ≡ tree.first → ⊥) → residual d.inner (target g.vertices d root a u) v ≡ false
      elsewhere v ne = go (d.small v) refl
        where
          go : (c : Bool) → d.small v ≡ c → residual d.inner (target g.vertices d root a u) v ≡ false
          go true e = settled d.inner (target g.vertices d root a u) v tree.ordered (tree.all v e ne)
          go false e = away_residual d.inner d.small (target g.vertices d root a u) v ok.inner_inside e ∙ rw e refl

      at_first_vertex : residual d.inner (target g.vertices d root a u) tree.first ≡ false
      at_first_vertex =
          sym (odd-one g.vertices tree.first (residual d.inner (target g.vertices d root a u)) tree.first_low)
          ∙ odd-congr g.vertices (λ v. eqb v tree.first && residual d.inner (target g.vertices d root a u) v)
          (residual d.inner (target g.vertices d root a u)) (λ v lt. only v (eqb v tree.first) refl)
          ∙ kept_parity g.vertices d.inner (target g.vertices d root a u) tree.apart ok.inner_low
          ∙ eq
        where
          only : (v : ℕ) (c : Bool) → eqb v tree.first ≡ c → (c && residual d.inner (target g.vertices d root a u) v)
              ≡ residual d.inner (target g.vertices d root a u) v
          only v true e = refl
          only v false e = sym (elsewhere v (ne_of v tree.first e))

      nothing : (v : ℕ) → d.small v ≡ true → residual d.inner (target g.vertices d root a u) v ≡ false
      nothing v s = go (eqb v tree.first) refl
        where
          go : (c : Bool) → eqb v tree.first ≡ c → residual d.inner (target g.vertices d root a u) v ≡ false
          go true e = ap (residual d.inner (target g.vertices d root a u)) (eqb-true v tree.first e) ∙ at_first_vertex
          go false e = elsewhere v (ne_of v tree.first e)

  -- ---- the mechanisms of the first model with the inner bits flipped are those of the second
  flips : (ℕ → ℕ) → ℕ → Bool
  flips c = bits 0 d.inner (target g.vertices d root a c)

  module _ (c u : ℕ → ℕ) (in_range : (j : ℕ) → j < length d.inner → u j < 2) (same : (j : ℕ) → length d.inner ≤ j → u j ≡ c j) where
    abbrev turned : ℕ → ℕ
    turned = flip (bits 0 d.inner (target g.vertices d root a c)) u

    kept_from : (j : ℕ) → length d.inner ≤ j → turned j ≡ u j
    kept_from j le = let e : bits 0 d.inner (target g.vertices d root a c) j ≡ false =
        false_from_ne_true (bits 0 d.inner (target g.vertices d root a c) j)
        (λ q. absurd (omega (arith, bits_low 0 d.inner (target g.vertices d root a c) j q))) in rw e refl

    outer_alike : (y z : ℕ → ℕ) (v : ℕ) → ((j : ℕ) → length d.inner ≤ j → y j ≡ z j) → at_vertex (length d.inner) d.outer (world_bit y) v
        ≡ at_vertex (length d.inner) d.outer (world_bit z) v
    outer_alike y z v h = at_vertex-congr (length d.inner) d.outer (world_bit y) (world_bit z) v (λ j le. ap bit (h j le))

    wanted_alike : (v : ℕ) → wanted g.vertices d a c v ≡ wanted g.vertices d a u v
    wanted_alike v = ap (λ r. d.small v && differ (chosen g.vertices (outsider d) d.choice (hedge_bit d a) v) r) (outer_alike c u v (λ j le. sym (same j le)))

    own_high : (v : ℕ) → d.small v ≡ true → length d.inner ≤ d.small_cause v
    own_high v s = let h = ok.own_high v s in omega arith

    outsider_alike : (v : ℕ) → d.small v ≡ false → first_bit g.vertices d a turned v ≡ first_bit g.vertices d a u v
    outsider_alike v s =
        ap (differ (chosen g.vertices (chooses d d.big) d.choice (hedge_bit d a) v))
        (ap₂ differ (ap₂ differ (inner_away 0 d.inner d.small (world_bit turned) v ok.inner_inside s
        ∙ sym (inner_away 0 d.inner d.small (world_bit u) v ok.inner_inside s)) (outer_alike turned u v kept_from))
        (ap (λ r. r && world_bit turned (d.small_cause v)) s ∙ ap (λ r. r && world_bit u (d.small_cause v)) (sym s)))

    outer_of_first : ((v : ℕ) → v < g.vertices → outsider d v ≡ true → hedge_bit d a v ≡ first_bit g.vertices d a turned v) → Outer u
    outer_of_first h v lt o = h v lt o ∙ outsider_alike v (not_true (d.small v) (and_second (d.big v) (not (d.small v)) o))

    outer_at : Outer u → Outer c
    outer_at h v lt o = h v lt o ∙ ap (differ (chosen g.vertices (chooses d d.big) d.choice (hedge_bit d a) v))
        (ap₂ differ (ap₂ differ (inner_away 0 d.inner d.small (world_bit u) v ok.inner_inside s
        ∙ sym (inner_away 0 d.inner d.small (world_bit c) v ok.inner_inside s)) (outer_alike u c v same))
        (ap (λ r. r && world_bit u (d.small_cause v)) s ∙ ap (λ r. r && world_bit c (d.small_cause v)) (sym s)))
      where
        s : d.small v ≡ false
        s = not_true (d.small v) (and_second (d.big v) (not (d.small v)) o)

    -- the choosers in big are those in small and the outsiders
    chosen_split : (v : ℕ) → chosen g.vertices (chooses d d.big) d.choice (hedge_bit d a) v
        ≡ differ (chosen g.vertices (chooses d d.small) d.choice (hedge_bit d a) v) (chosen g.vertices (outsider d) d.choice (hedge_bit d a) v)
    chosen_split v =
        odd-congr g.vertices (λ w. chooses d d.big w && (eqb v (d.choice w) && hedge_bit d a w))
        (λ w. differ (chooses d d.small w && (eqb v (d.choice w) && hedge_bit d a w)) (outsider d w && (eqb v (d.choice w) && hedge_bit d a w)))
        (λ w lt. at (d.big w) (d.small w) (d.roots w) (eqb v (d.choice w) && hedge_bit d a w) (ok.small_big w) (ok.roots_small w))
        ∙ odd-differ g.vertices (λ w. chooses d d.small w && (eqb v (d.choice w) && hedge_bit d a w))
        (λ w. outsider d w && (eqb v (d.choice w) && hedge_bit d a w))
      where
        at : (b s r k : Bool) → (s ≡ true → b ≡ true) → (r ≡ true → s ≡ true) → ((b && not r) && k) ≡ differ ((s && not r) && k) ((b && not s) && k)
        at true true r k f q = sym (differ-false (not r && k))
        at true false true k f q = absurd (grind (arith, q refl))
        at true false false k f q = refl
        at false true r k f q = absurd (grind (arith, f refl))
        at false false r k f q = refl

    inner_turned : (v : ℕ) → at_vertex 0 d.inner (world_bit turned) v ≡ differ (at_vertex 0 d.inner (world_bit u) v)
        (at_vertex 0 d.inner (bits 0 d.inner (target g.vertices d root a c)) v)
    inner_turned v =
        at_vertex-congr 0 d.inner (world_bit turned) (λ j. differ (world_bit u j) (bits 0 d.inner (target g.vertices d root a c) j)) v
        (λ j le. each j (ltb j (length d.inner)) refl)
        ∙ at_vertex-flip 0 d.inner (world_bit u) (bits 0 d.inner (target g.vertices d root a c)) v
      where
        each : (j : ℕ) (p : Bool) → ltb j (length d.inner) ≡ p → bit (flip_value (bits 0 d.inner (target g.vertices d root a c) j) (u j))
            ≡ differ (bit (u j)) (bits 0 d.inner (target g.vertices d root a c) j)
        each j true e = flipped_bit (bits 0 d.inner (target g.vertices d root a c) j) (u j) (in_range j (ltb-true j (length d.inner) e))
        each j false e =
            let z : bits 0 d.inner (target g.vertices d root a c) j ≡ false =
            false_from_ne_true (bits 0 d.inner (target g.vertices d root a c) j)
            (λ q. absurd (let l = ltb-false j (length d.inner) e in omega (arith, bits_low 0 d.inner (target g.vertices d root a c) j q))) in
            rw z (sym (differ-false (bit (u j))))

    small_alike : odd_below g.vertices (target g.vertices d root a c) ≡ false → (v : ℕ)
        → (eqb v root && odd_below g.vertices (wanted g.vertices d a c)) ≡ false → d.small v ≡ true
        → first_bit g.vertices d a turned v ≡ differ (chosen g.vertices (chooses d d.small) d.choice (hedge_bit d a) v) (at_second d (world_bit u) v)
    small_alike eq v fine s =
        ap₂ differ (chosen_split v)
        (ap₂ differ (ap₂ differ (inner_turned v ∙ ap (differ (at_vertex 0 d.inner (world_bit u) v)) more) (outer_alike turned u v kept_from))
        (ap (λ r. r && world_bit turned (d.small_cause v)) s ∙ ap bit (kept_from (d.small_cause v) (own_high v s))))
        ∙ shuffle (chosen g.vertices (chooses d d.small) d.choice (hedge_bit d a) v) (chosen g.vertices (outsider d) d.choice (hedge_bit d a) v)
        (at_vertex 0 d.inner (world_bit u) v) (at_vertex (length d.inner) d.outer (world_bit u) v) (world_bit u (d.small_cause v))
      where
        more : at_vertex 0 d.inner (bits 0 d.inner (target g.vertices d root a c)) v
            ≡ differ (chosen g.vertices (outsider d) d.choice (hedge_bit d a) v) (at_vertex (length d.inner) d.outer (world_bit u) v)
        more = solved c eq v s ∙ same_target c v fine ∙ wanted_alike v
            ∙ ap (λ r. r && differ (chosen g.vertices (outsider d) d.choice (hedge_bit d a) v) (at_vertex (length d.inner) d.outer (world_bit u) v)) s

        shuffle : (p q i o w : Bool) → differ (differ p q) (differ (differ (differ i (differ q o)) o) w) ≡ differ p (differ i w)
        shuffle p q i o w =
            differ-assoc p q (differ (differ (differ i (differ q o)) o) w)
            ∙ ap (differ p) (ap (λ r. differ q (differ r w)) (differ-assoc i (differ q o) o
            ∙ ap (differ i) (differ-assoc q o o ∙ ap (differ q) (differ-self o) ∙ differ-false q))
            ∙ sym (differ-assoc q (differ i q) w) ∙ ap (λ r. differ r w)
            (ap (differ q) (differ-comm i q) ∙ sym (differ-assoc q q i) ∙ ap (λ r. differ r i) (differ-self q)))

    bits_alike : odd_below g.vertices (target g.vertices d root a c) ≡ false → (v : ℕ)
        → (eqb v root && odd_below g.vertices (wanted g.vertices d a c)) ≡ false → first_bit g.vertices d a turned v ≡ second_bit g.vertices d a u v
    bits_alike eq v fine = go (d.small v) refl
      where
        go : (p : Bool) → d.small v ≡ p → first_bit g.vertices d a turned v
            ≡ cond p (differ (chosen g.vertices (chooses d d.small) d.choice (hedge_bit d a) v) (at_second d (world_bit u) v)) (first_bit g.vertices d a u v)
        go true s = small_alike eq v fine s
        go false s = outsider_alike v s

    mechanisms_alike : odd_below g.vertices (target g.vertices d root a c) ≡ false → (v : ℕ)
        → (eqb v root && odd_below g.vertices (wanted g.vertices d a c)) ≡ false → first_mechanism g.vertices d v a turned ≡ second_mechanism g.vertices d v a u
    mechanisms_alike eq v fine = go (d.kept v) refl
      where
        top_high : d.kept v ≡ true → length d.inner ≤ d.kept_cause v
        top_high k = let h = ok.top_high v k in omega arith

        no_top : (b : Bool) (h k l : Bool) → value b false h k ≡ value b false h l
        no_top true h k l = refl
        no_top false h k l = refl

        go : (p : Bool) → d.kept v ≡ p → value (d.big v) (d.kept v) (first_bit g.vertices d a turned v)
            (top_bit g.vertices d a turned (first_bit g.vertices d a turned v) v)
            ≡ value (d.big v) (d.kept v) (second_bit g.vertices d a u v) (top_bit g.vertices d a u (second_bit g.vertices d a u v) v)
        go true k =
            ap (λ r. value (d.big v) (d.kept v) r (top_bit g.vertices d a turned r v)) (bits_alike eq v fine)
            ∙ ap (λ r. value (d.big v) (d.kept v) (second_bit g.vertices d a u v)
            (differ (chosen g.vertices (carries d) d.carry (carried_bit d a) v) (differ (d.roots v && second_bit g.vertices d a u v) (bit r))))
            (kept_from (d.kept_cause v) (top_high k))
        go false k =
            ap (λ r. value (d.big v) (d.kept v) r (top_bit g.vertices d a turned r v)) (bits_alike eq v fine)
            ∙ ap (λ q. value (d.big v) q (second_bit g.vertices d a u v) (top_bit g.vertices d a turned (second_bit g.vertices d a u v) v)) k
            ∙ no_top (d.big v) (second_bit g.vertices d a u v) (top_bit g.vertices d a turned (second_bit g.vertices d a u v) v)
            (top_bit g.vertices d a u (second_bit g.vertices d a u v) v)
            ∙ ap (λ q. value (d.big v) q (second_bit g.vertices d a u v) (top_bit g.vertices d a u (second_bit g.vertices d a u v) v)) (sym k)

    -- what the equations of the vertices that aren't set tell
    record Told : Type 0 where
      even : odd_below g.vertices (target g.vertices d root a c) ≡ false
      fine : (v : ℕ) → cuts v ≡ false → (eqb v root && odd_below g.vertices (wanted g.vertices d a c)) ≡ false

    told : (((v : ℕ) → d.big v ≡ true → cuts v ≡ false) → Outer u) → Told
    told outer = go leaves
      where
        none : (b : Bool) → (b && false) ≡ false
        none true = refl
        none false = refl

        go : LeavesAgreement d cuts root → Told
        go (inl h) = let e = even_wanted c (outer_at (outer h)) in record { even = by_outer c e; fine = λ v q. rw e (none (eqb v root)) }
        go (inr h) = record {
          even = by_root c h.0;
          fine = λ v q. ap (λ b. b && odd_below g.vertices (wanted g.vertices d a c)) (ne_eqb v root (λ s. not_both (cuts v) (ap cuts s ∙ h.1) q));
        }

    -- either model gives the vertices that aren't set their values in a
    Gives : (ℕ → (ℕ → ℕ) → (ℕ → ℕ) → ℕ) → (ℕ → ℕ) → Type 0
    Gives f w = (v : ℕ) → v < g.vertices → cuts v ≡ false → a v ≡ f v a w

    outer_from_first : Gives (first_mechanism g.vertices d) turned → ((v : ℕ) → d.big v ≡ true → cuts v ≡ false) → Outer u
    unfolding Gives
    outer_from_first h apart = outer_of_first (λ v lt o. let b = and_first (d.big v) (not (d.small v)) o in
        ap (λ r. bit (r % 2)) (h v lt (apart v b)) ∙ ap
        (λ r. bit (value r (d.kept v) (first_bit g.vertices d a turned v) (top_bit g.vertices d a turned (first_bit g.vertices d a turned v) v) % 2)) b
        ∙ hedge_of (d.kept v) (first_bit g.vertices d a turned v) (top_bit g.vertices d a turned (first_bit g.vertices d a turned v) v))

    outer_from_second : Gives (second_mechanism g.vertices d) u → ((v : ℕ) → d.big v ≡ true → cuts v ≡ false) → Outer u
    unfolding Gives
    outer_from_second h apart v lt o =
        ap (λ r. bit (r % 2)) (h v lt (apart v (and_first (d.big v) (not (d.small v)) o)))
        ∙ ap (λ r. bit (value r (d.kept v) (second_bit g.vertices d a u v) (top_bit g.vertices d a u (second_bit g.vertices d a u v) v) % 2))
        (and_first (d.big v) (not (d.small v)) o)
        ∙ hedge_of (d.kept v) (second_bit g.vertices d a u v) (top_bit g.vertices d a u (second_bit g.vertices d a u v) v)
        ∙ cond_false (d.small v) (differ (chosen g.vertices (chooses d d.small) d.choice (hedge_bit d a) v) (at_second d (world_bit u) v))
        (first_bit g.vertices d a u v) (not_true (d.small v) (and_second (d.big v) (not (d.small v)) o))

    all_alike : all_below g.vertices (λ v. cond true (eqb (a v) (cond (cuts v) (a v) (first_mechanism g.vertices d v a turned))) true)
        ≡ all_below g.vertices (λ v. cond true (eqb (a v) (cond (cuts v) (a v) (second_mechanism g.vertices d v a u))) true)
    unfolding Gives
    all_alike =
        same_truth (all_below g.vertices (λ v. eqb (a v) (cond (cuts v) (a v) (first_mechanism g.vertices d v a turned))))
        (all_below g.vertices (λ v. eqb (a v) (cond (cuts v) (a v) (second_mechanism g.vertices d v a u))))
        (λ e. let h = read (first_mechanism g.vertices d) turned e in let k = told (outer_from_first h) in
        write (second_mechanism g.vertices d) u (λ v lt q. h v lt q ∙ mechanisms_alike k.even v (k.fine v q)))
        (λ e. let h = read (second_mechanism g.vertices d) u e in let k = told (outer_from_second h) in
        write (first_mechanism g.vertices d) turned (λ v lt q. h v lt q ∙ sym (mechanisms_alike k.even v (k.fine v q))))
      where
        read : (f : ℕ → (ℕ → ℕ) → (ℕ → ℕ) → ℕ) (w : ℕ → ℕ) → all_below g.vertices (λ v. eqb (a v) (cond (cuts v) (a v) (f v a w))) ≡ true → (v : ℕ)
            → v < g.vertices → cuts v ≡ false → a v ≡ f v a w
        read f w e v lt q = let h = eqb-true (a v) (cond (cuts v) (a v) (f v a w))
            (all_below_each g.vertices (λ v. eqb (a v) (cond (cuts v) (a v) (f v a w))) e v lt) in rw q at h

        write : (f : ℕ → (ℕ → ℕ) → (ℕ → ℕ) → ℕ) (w : ℕ → ℕ) → ((v : ℕ) → v < g.vertices → cuts v ≡ false → a v ≡ f v a w)
            → all_below g.vertices (λ v. eqb (a v) (cond (cuts v) (a v) (f v a w))) ≡ true
        write f w h = all_below_from g.vertices (λ v. eqb (a v) (cond (cuts v) (a v) (f v a w))) (λ v lt. go v lt (cuts v) refl)
          where
            go : (v : ℕ) → v < g.vertices → (c : Bool) → cuts v ≡ c → eqb (a v) (cond (cuts v) (a v) (f v a w)) ≡ true
            go v lt true q = rw q (eq-eqb (a v) (a v) refl)
            go v lt false q = rw q (eq-eqb (a v) (f v a w) (h v lt q))

    weight_alike : product_below d.causes (λ j. cause_weight d j (turned j)) ≡ product_below d.causes (λ j. cause_weight d j (u j))
    weight_alike = product_below-congr d.causes (λ j. cause_weight d j (turned j)) (λ j. cause_weight d j (u j)) (λ j lt. go j (ltb j (length d.inner)) refl)
      where
        go : (j : ℕ) (p : Bool) → ltb j (length d.inner) ≡ p → cause_weight d j (turned j) ≡ cause_weight d j (u j)
        go j true e = let l : ltb j (links_of d) ≡ true = lt-ltb j (links_of d) (let q = ltb-true j (length d.inner) e in omega arith) in rw l refl
        go j false e = ap (cause_weight d j) (kept_from j (ltb-false j (length d.inner) e))

  module _ (rank : ℕ → ℕ) (ranked : IsRanked g rank) (serves : ℕ → ℕ → Bool)
      (fit₁ : Follows g (counter_model g.vertices d serves (first_mechanism g.vertices d)))
      (fit₂ : Follows g (counter_model g.vertices d serves (second_mechanism g.vertices d))) where
    abbrev One : FiniteModel
    One = counter_model g.vertices d serves (first_mechanism g.vertices d)

    abbrev Two : FiniteModel
    Two = counter_model g.vertices d serves (second_mechanism g.vertices d)

    abbrev term : (ℕ → (ℕ → ℕ) → (ℕ → ℕ) → ℕ) → (ℕ → ℕ) → ℕ
    term f u = product_below d.causes (λ j. cause_weight d j (u j)) * product_below g.vertices
        (λ v. number (cond true (eqb (a v) (cond (cuts v) (a v) (f v a u))) true))

    or_not : (p : Bool) → true ≡ (not p || p)
    or_not true = refl
    or_not false = refl

    flip_fits : (c : ℕ → ℕ) (i : ℕ) → bits 0 d.inner (target g.vertices d root a c) i ≡ true → (i < d.causes) × (ltb i (length d.inner) ≡ true)
        × (◌≡◌ {A = ℕ} 2 2)
    flip_fits c i e = let l : i < length d.inner = omega (arith, bits_low 0 d.inner (target g.vertices d root a c) i e) in
        (omega (arith, ok.links_low, l), lt-ltb i (length d.inner) l, refl)

    -- the inner sums agree at each point of the other causes
    inner_sums : (c : ℕ → ℕ) → sum_over (λ j. ltb j (length d.inner)) (λ j. 2) d.causes (term (first_mechanism g.vertices d)) c
        ≡ sum_over (λ j. ltb j (length d.inner)) (λ j. 2) d.causes (term (second_mechanism g.vertices d)) c
    inner_sums c =
        sym (over-flip (λ j. ltb j (length d.inner)) (λ j. 2) d.causes (term (first_mechanism g.vertices d)) (bits 0 d.inner (target g.vertices d root a c)) c
        (flip_fits c))
        ∙ over-congr_box (λ j. ltb j (length d.inner)) (λ j. 2) d.causes
        (λ u. term (first_mechanism g.vertices d) (flip (bits 0 d.inner (target g.vertices d root a c)) u)) (term (second_mechanism g.vertices d)) c
        (λ u r same.
        let range : (j : ℕ) → j < length d.inner → u j < 2 = λ j l. r j (omega (arith, ok.links_low)) (lt-ltb j (length d.inner) l) in
        let keep : (j : ℕ) → length d.inner ≤ j → u j ≡ c j = λ j l. same j (λ lt e. let q = ltb-true j (length d.inner) e in omega arith) in
        ap₂ (λ p q. p * q) (weight_alike c u range keep)
        (sym (number-all g.vertices
        (λ v. cond true (eqb (a v) (cond (cuts v) (a v) (first_mechanism g.vertices d v a (flip (bits 0 d.inner (target g.vertices d root a c)) u)))) true))
        ∙ ap number (all_alike c u range keep)
        ∙ number-all g.vertices (λ v. cond true (eqb (a v) (cond (cuts v) (a v) (second_mechanism g.vertices d v a u))) true)))

    by_parts : (f : ℕ → (ℕ → ℕ) → (ℕ → ℕ) → ℕ) → sum_over (λ j. true) (λ j. 2) d.causes (term f) (λ j. 0)
        ≡ sum_over (λ j. not (ltb j (length d.inner))) (λ j. 2) d.causes (sum_over (λ j. ltb j (length d.inner)) (λ j. 2) d.causes (term f)) (λ j. 0)
    by_parts f =
        ap (λ U. sum_over U (λ j. 2) d.causes (term f) (λ j. 0)) (fun_ext (λ j. or_not (ltb j (length d.inner))))
        ∙ over-join (λ j. not (ltb j (length d.inner))) (λ j. ltb j (length d.inner)) (λ j. 2) d.causes (term f) (λ j. 0)
        (λ i p q. not_both (ltb i (length d.inner)) q (not_true (ltb i (length d.inner)) p))

    -- both models give the assignment a of all vertices the same weight under the intervention
    pub under_agrees : IsAssignment g.vertices (size_of d) a → weight_of One cuts (λ v. true) a ≡ weight_of Two cuts (λ v. true) a
    under_agrees within =
        weight_by_checks g (intervene One cuts a) rank ranked (follows_intervene g One cuts a within fit₁) (λ v. true) a (λ p v e q. refl)
        ∙ by_parts (first_mechanism g.vertices d)
        ∙ over-congr (λ j. not (ltb j (length d.inner))) (λ j. 2) d.causes
        (sum_over (λ j. ltb j (length d.inner)) (λ j. 2) d.causes (term (first_mechanism g.vertices d)))
        (sum_over (λ j. ltb j (length d.inner)) (λ j. 2) d.causes (term (second_mechanism g.vertices d))) (λ j. 0) inner_sums
        ∙ sym (by_parts (second_mechanism g.vertices d))
        ∙ sym (weight_by_checks g (intervene Two cuts a) rank ranked (follows_intervene g Two cuts a within fit₂) (λ v. true) a (λ p v e q. refl))
