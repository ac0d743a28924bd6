-- Both counter-models are positive: each assignment is the solution of a world.
use Rattle.std.proofs.Common.{ℕ, zero, suc, ◌+◌, ◌*◌, ◌/◌, ◌%◌, ◌≡◌, ◌<◌, ◌≤◌, Bool, true, false, cond, eqb, ltb, not, refl, sym, ap, ap₂, ◌∙◌, ◌&&◌}
use Rattle.std.proofs.Common.{List, [], ◌∷◌, length, arith, eq-eqb, lt-ltb, le-ltb, ltb-true}
use Rattle.std.proofs.lemmas.Bool.{and_from}
use Rattle.mixed_graph.specs.Vocabulary.{MixedGraph}
use Rattle.finite_models.specs.Vocabulary.{product_below, FiniteModel, IsAssignment, world_weight, event_weight, differ}
use Rattle.finite_models.proofs.Following.{Follows}
use Rattle.finite_models.proofs.Indicators.{number, number-all, all_below_from}
use Rattle.finite_models.proofs.Solutions.{IsRanked}
use Rattle.finite_models.proofs.Factors.{checks, weight_by_checks}
use Rattle.finite_models.proofs.Bools.{not_both}
use Rattle.finite_models.proofs.SumLaws.{over-base, over-term}
use Rattle.counter_models.specs.Parities.{bit, chosen}
use Rattle.counter_models.specs.Links.{Link, at_vertex}
use Rattle.counter_models.specs.Hedges.{ParityHedge, IsParityHedge, links_of, outsider, IsTree, IsNumbered}
use Rattle.counter_models.specs.ParityPairs.{value, hedge_bit, carried_bit, world_bit, at_second, chooses, first_bit, second_bit, carries, top_bit}
use Rattle.counter_models.specs.ParityPairs.{second_mechanism, cause_weight, counter_model}
use Rattle.counter_models.proofs.ParityLaws.{differ-false}
use Rattle.counter_models.proofs.Solve.{bits, met, settled}

at_vertex-congr_to : (k : ℕ) (r : List Link) (x y : ℕ → Bool) (v : ℕ) → ((j : ℕ) → k ≤ j → j < k + length r → x j ≡ y j) → at_vertex k r x v ≡ at_vertex k r y v
at_vertex-congr_to k [] x y v h = refl
at_vertex-congr_to k (p ∷ r) x y v h =
    ap (λ b. differ (differ (eqb v p.entry) (eqb v p.partner) && b) (at_vertex (suc k) r x v)) (h k (omega arith) (omega arith))
    ∙ ap (differ (differ (eqb v p.entry) (eqb v p.partner) && y k)) (at_vertex-congr_to (suc k) r x y v (λ j le lt. h j (omega arith) (omega arith)))

at_vertex-none : (k : ℕ) (r : List Link) (v : ℕ) → at_vertex k r (λ j. false) v ≡ false
at_vertex-none k [] v = refl
at_vertex-none k (p ∷ r) v = ap₂ differ (at (differ (eqb v p.entry) (eqb v p.partner))) (at_vertex-none (suc k) r v)
  where
    at : (q : Bool) → (q && false) ≡ false
    at true = refl
    at false = refl

-- a value below its size is made of its bits
from_bits : (b k : Bool) (x : ℕ) → x < cond b (cond k 4 2) (cond k 2 1) → value b k (bit (x % 2)) (cond b (bit (x / 2)) (bit x)) ≡ x
from_bits true true zero lt = refl
from_bits true true (suc zero) lt = refl
from_bits true true (suc (suc zero)) lt = refl
from_bits true true (suc (suc (suc zero))) lt = refl
from_bits true true (suc (suc (suc (suc x)))) lt = absurd (omega arith)
from_bits true false zero lt = refl
from_bits true false (suc zero) lt = refl
from_bits true false (suc (suc x)) lt = absurd (omega arith)
from_bits false true zero lt = refl
from_bits false true (suc zero) lt = refl
from_bits false true (suc (suc x)) lt = absurd (omega arith)
from_bits false false zero lt = refl
from_bits false false (suc x) lt = absurd (omega arith)

bit_number : (b : Bool) → bit (number b) ≡ b
bit_number true = refl
bit_number false = refl

undone : (c h : Bool) → differ c (differ h c) ≡ h
undone true true = refl
undone true false = refl
undone false true = refl
undone false false = refl

product_pos : (k : ℕ) (f : ℕ → ℕ) → ((i : ℕ) → 1 ≤ f i) → 1 ≤ product_below k f
product_pos zero f h = omega arith
product_pos (suc k) f h = at (product_below k f) (f k) (product_pos k f h) (h k)
  where
    at : (p q : ℕ) → 1 ≤ p → 1 ≤ q → 1 ≤ p * q
    at p q a b = grind arith

module _ (g : MixedGraph) (x : ℕ → Bool) (d : ParityHedge) (ok : IsParityHedge g x d) (tree : IsTree g.vertices d) (numbered : IsNumbered d) (a : ℕ → ℕ)
    (within : IsAssignment g.vertices (λ v. cond (d.big v) (cond (d.kept v) 4 2) (cond (d.kept v) 2 1)) a) where
  abbrev outer_target : ℕ → Bool
  outer_target v = differ (hedge_bit d a v) (chosen g.vertices (chooses d d.big) d.choice (hedge_bit d a) v)

  abbrev own_target : ℕ → Bool
  own_target v = differ (hedge_bit d a v) (chosen g.vertices (chooses d d.small) d.choice (hedge_bit d a) v)

  abbrev top_target : ℕ → Bool
  top_target v = differ (differ (d.roots v && hedge_bit d a v) (carried_bit d a v)) (chosen g.vertices (carries d) d.carry (carried_bit d a) v)

  abbrev link_bit : ℕ → Bool
  link_bit j = cond (ltb j (length d.inner)) false (bits (length d.inner) d.outer outer_target j)

  abbrev other_bit : ℕ → Bool
  other_bit j = cond (numbered.is_own j) (own_target (numbered.holder j)) (top_target (numbered.holder j))

  abbrev world : ℕ → ℕ
  world j = cond (ltb j d.causes) (number (cond (ltb j (links_of d)) (link_bit j) (other_bit j))) 0

  other_at : (j : ℕ) → links_of d ≤ j → j < d.causes → bit (world j) ≡ other_bit j
  other_at j le lt = let l : ltb j d.causes ≡ true = lt-ltb j d.causes lt in let n : ltb j (links_of d) ≡ false = le-ltb j (links_of d) le in
      rw (l, n) (bit_number (other_bit j))

  link_at : (j : ℕ) → j < links_of d → bit (world j) ≡ link_bit j
  link_at j lt = let l : ltb j d.causes ≡ true = lt-ltb j d.causes (let q = ok.links_low in omega arith) in let n : ltb j (links_of d) ≡ true =
      lt-ltb j (links_of d) lt in rw (l, n) (bit_number (link_bit j))

  own_at : (v : ℕ) → d.small v ≡ true → bit (world (d.small_cause v)) ≡ own_target v
  own_at v s = other_at (d.small_cause v) (ok.own_high v s) (ok.own_low v s) ∙ rw (numbered.own_is v s, numbered.own_holder v s) refl

  top_at : (v : ℕ) → d.kept v ≡ true → bit (world (d.kept_cause v)) ≡ top_target v
  top_at v k = other_at (d.kept_cause v) (ok.top_high v k) (ok.top_low v k) ∙ rw (numbered.top_is v k, numbered.top_holder v k) refl

  inner_at : (v : ℕ) → at_vertex 0 d.inner (world_bit world) v ≡ false
  inner_at v =
      at_vertex-congr_to 0 d.inner (world_bit world) (λ j. false) v
      (λ j le lt. link_at j (omega arith) ∙ (let l : ltb j (length d.inner) ≡ true = lt-ltb j (length d.inner) (omega arith) in rw l refl))
      ∙ at_vertex-none 0 d.inner v

  outer_at : (v : ℕ) → outsider d v ≡ true → at_vertex (length d.inner) d.outer (world_bit world) v ≡ outer_target v
  outer_at v o =
      at_vertex-congr_to (length d.inner) d.outer (world_bit world) (bits (length d.inner) d.outer outer_target) v
      (λ j le lt. link_at j lt ∙ (let l : ltb j (length d.inner) ≡ false = le-ltb j (length d.inner) le in rw l refl))
      ∙ sym (differ-false (at_vertex (length d.inner) d.outer (bits (length d.inner) d.outer outer_target) v))
      ∙ ap (differ (at_vertex (length d.inner) d.outer (bits (length d.inner) d.outer outer_target) v))
      (sym (settled d.outer outer_target v numbered.ordered (numbered.listed v o)))
      ∙ met (length d.inner) d.outer outer_target v numbered.apart

  second_is : (v : ℕ) → d.big v ≡ true → second_bit g.vertices d a world v ≡ hedge_bit d a v
  second_is v b = go (d.small v) refl
    where
      go : (p : Bool) → d.small v ≡ p → cond p (differ (chosen g.vertices (chooses d d.small) d.choice (hedge_bit d a) v) (at_second d (world_bit world) v))
          (first_bit g.vertices d a world v) ≡ hedge_bit d a v
      go true s =
          ap (differ (chosen g.vertices (chooses d d.small) d.choice (hedge_bit d a) v)) (ap₂ differ (inner_at v) (own_at v s))
          ∙ undone (chosen g.vertices (chooses d d.small) d.choice (hedge_bit d a) v) (hedge_bit d a v)
      go false s =
          ap (differ (chosen g.vertices (chooses d d.big) d.choice (hedge_bit d a) v))
          (ap₂ differ (ap₂ differ (inner_at v) (outer_at v (and_from (d.big v) (not (d.small v)) b (rw s refl))))
          (ap (λ r. r && world_bit world (d.small_cause v)) s) ∙ differ-false (outer_target v))
          ∙ undone (chosen g.vertices (chooses d d.big) d.choice (hedge_bit d a) v) (hedge_bit d a v)

  top_is : (v : ℕ) → d.kept v ≡ true → (h : Bool) → (d.roots v ≡ true → h ≡ hedge_bit d a v) → top_bit g.vertices d a world h v ≡ carried_bit d a v
  top_is v k h e =
      ap (λ r. differ (chosen g.vertices (carries d) d.carry (carried_bit d a) v) (differ r (world_bit world (d.kept_cause v)))) (same (d.roots v) e)
      ∙ ap (λ r. differ (chosen g.vertices (carries d) d.carry (carried_bit d a) v) (differ (d.roots v && hedge_bit d a v) r)) (top_at v k)
      ∙ shuffle (chosen g.vertices (carries d) d.carry (carried_bit d a) v) (d.roots v && hedge_bit d a v) (carried_bit d a v)
    where
      same : (r : Bool) → (r ≡ true → h ≡ hedge_bit d a v) → (r && h) ≡ (r && hedge_bit d a v)
      same true e = e refl
      same false e = refl

      shuffle : (c r k : Bool) → differ c (differ r (differ (differ r k) c)) ≡ k
      shuffle true true true = refl
      shuffle true true false = refl
      shuffle true false true = refl
      shuffle true false false = refl
      shuffle false true true = refl
      shuffle false true false = refl
      shuffle false false true = refl
      shuffle false false false = refl

  -- the assignment obeys each mechanism of the second model in this world
  obeyed : (v : ℕ) → v < g.vertices → a v ≡ second_mechanism g.vertices d v a world
  obeyed v lt =
      sym (from_bits (d.big v) (d.kept v) (a v) (within v lt))
      ∙ alike (d.big v) (d.kept v) refl refl
    where
      alike : (b k : Bool) → d.big v ≡ b → d.kept v ≡ k → value b k (hedge_bit d a v) (cond b (bit (a v / 2)) (bit (a v)))
          ≡ value b k (second_bit g.vertices d a world v) (top_bit g.vertices d a world (second_bit g.vertices d a world v) v)
      alike true true eb ek = ap₂ (value true true) (sym (second_is v eb))
          (sym (top_is v ek (second_bit g.vertices d a world v) (λ r. second_is v eb) ∙ ap (λ r. cond r (bit (a v / 2)) (bit (a v))) eb))
      alike true false eb ek = ap number (sym (second_is v eb))
      alike false true eb ek = ap number (sym (top_is v ek (second_bit g.vertices d a world v)
          (λ r. absurd (not_both (d.big v) (ok.small_big v (ok.roots_small v r)) eb)) ∙ ap (λ r. cond r (bit (a v / 2)) (bit (a v))) eb))
      alike false false eb ek = refl

  module _ (rank : ℕ → ℕ) (ranked : IsRanked g rank) (serves : ℕ → ℕ → Bool)
      (fit₂ : Follows g (counter_model g.vertices d serves (second_mechanism g.vertices d))) where
    abbrev Two : FiniteModel
    Two = counter_model g.vertices d serves (second_mechanism g.vertices d)

    in_range : (j : ℕ) → j < d.causes → true ≡ true → world j < 2
    in_range j lt e = at (ltb j d.causes) (cond (ltb j (links_of d)) (link_bit j) (other_bit j))
      where
        at : (c b : Bool) → cond c (number b) 0 < 2
        at true true = omega arith
        at true false = omega arith
        at false b = omega arith

    pub second_positive : 1 ≤ event_weight Two (λ v. true) a
    second_positive =
        omega (
          arith,
          weight_by_checks g Two rank ranked fit₂ (λ v. true) a (λ p v e q. refl),
          over-base (λ j. true) (λ j. 2) d.causes (λ u. world_weight Two u * checks Two (λ v. true) a u) world (λ j. 0)
              (λ i out. beyond i (ltb i d.causes) refl out),
          over-term (λ j. true) (λ j. 2) d.causes (λ u. world_weight Two u * checks Two (λ v. true) a u) world in_range,
          term,
        )
      where
        beyond : (i : ℕ) (c : Bool) → ltb i d.causes ≡ c → (i < d.causes → true ≡ true → ⊥) → world i ≡ 0
        beyond i true e out = absurd (out (ltb-true i d.causes e) refl)
        beyond i false e out = rw e refl

        one : checks Two (λ v. true) a world ≡ 1
        one = sym (number-all g.vertices (λ v. cond true (eqb (a v) (second_mechanism g.vertices d v a world)) true))
            ∙ ap number (all_below_from g.vertices (λ v. eqb (a v) (second_mechanism g.vertices d v a world))
            (λ v lt. eq-eqb (a v) (second_mechanism g.vertices d v a world) (obeyed v lt)))

        weights : 1 ≤ world_weight Two world
        weights = product_pos d.causes (λ j. cause_weight d j (world j)) (λ j. at (ltb j (links_of d)) (eqb (world j) 0))
          where
            at : (c b : Bool) → 1 ≤ cond c 1 (cond b 3 1)
            at true b = omega arith
            at false true = omega arith
            at false false = omega arith

        term : 1 ≤ world_weight Two world * checks Two (λ v. true) a world
        term = rw one (omega (arith, weights))
