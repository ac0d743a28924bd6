-- The data of a hedge, as the theory of the two models takes it.
use Rattle.std.proofs.Common.{ℕ, zero, suc, ◌+◌, ◌-◌, ◌≡◌, ◌≢◌, ◌<◌, ◌≤◌, Bool, true, false, cond, ltb, not, ◌&&◌, ◌⊎◌, inl, inr, refl, sym, ap, ap₂}
use Rattle.std.proofs.Common.{◌∙◌, List, slice_index, get_or, arith, lt-ltb, le-ltb}
use Rattle.std.proofs.lemmas.Bool.{cases_lt, and_from, and_parts}
use Rattle.mixed_graph.specs.Vocabulary.{has, members_below, Apart, MixedGraph, IsMixedGraph}
use Rattle.hedge.specs.declared.hedge.Hedge.{Hedge}
use Rattle.hedge.specs.Vocabulary.{size_of, IsPlaced, IsChildInside, IsHedge}
use Rattle.finite_models.specs.Vocabulary.{differ}
use Rattle.counter_models.specs.Links.{is_entry}
use Rattle.counter_models.specs.Hedges.{ParityHedge, IsParityHedge, IsTree, IsNumbered, IsWholeHedge, AreOuter, links_of, privates}
use Rattle.counter_models.proofs.Counter.{odd_none}
use Rattle.counter_models.specs.Kept.{free, CarriesTo, IsCarrier, AreCarriers}
use Rattle.counter_models.specs.Kept.IsCarrier.{root, next}
use Rattle.counter_models.specs.Pairs.{before, small_cause, kept_cause}
use Rattle.counter_models.specs.Theory.{links_from, inner_entries, inner_of, outer_of, data_of}
use Rattle.counter_models.proofs.Lists.{before-less}
use Rattle.counter_models.proofs.Counted.{numbered, same_number, find, odd_single}
use Rattle.counter_models.proofs.Entries.{length-links, entry_small, small_entry, entry_low, below, inside, apart, joined, ordered, rooted, listed}

true_not : (p q : Bool) → (p ≡ true → q ≡ false) → q ≡ true → p ≡ false
true_not true q h e = absurd (let z = h refl in grind (arith, e, z))
true_not false q h e = refl

off : (p : Bool) → not p ≡ true → p ≡ false
off true e = absurd (grind (arith, e))
off false e = refl

on : (p : Bool) → p ≡ false → not p ≡ true
on true e = absurd (grind (arith, e))
on false e = refl

clash : (p : Bool) → p ≡ true → p ≡ false → ⊥
clash p e f = absurd (grind (arith, e, f))

module _ (g : MixedGraph) (graph : IsMixedGraph g) (few : g.vertices ≤ 64) (x y : ℕ) (h : Hedge) (hedge : IsHedge g x y h) (x_y : Apart (has x) (has y))
    (kept : ℕ) (carry : List ℕ)
    (are : AreCarriers g x y h.roots.bits kept carry) where
  abbrev d : ParityHedge
  d = data_of y h kept carry

  small_big : (v : ℕ) → has h.small.bits v ≡ true → has h.big.bits v ≡ true
  small_big v e = hedge.sets.small_inside v e

  big_low : (v : ℕ) → has h.big.bits v ≡ true → v < g.vertices
  big_low v e = hedge.sets.low v e

  small_low : (v : ℕ) → has h.small.bits v ≡ true → v < 64
  small_low v e = let l = big_low v (small_big v e) in omega arith

  root_placed : IsPlaced h hedge.sets.rooted.0
  root_placed = hedge.links.placed hedge.sets.rooted.0 (small_big hedge.sets.rooted.0 (hedge.sets.roots_inside hedge.sets.rooted.0 hedge.sets.rooted.1))

  pub some_small : 1 ≤ size_of h.small.bits
  some_small = let l = root_placed.small_first.0 (hedge.sets.roots_inside hedge.sets.rooted.0 hedge.sets.rooted.1) in omega arith

  pub some_entry : 1 ≤ h.links.count
  some_entry = let l = root_placed.listed in omega arith

  kept_low : (v : ℕ) → IsCarrier g x y h.roots.bits v → v < g.vertices
  kept_low v (root i) = (hedge.roots v i).vertex
  kept_low v (next {u} k o c) = graph.head_below u v (and_parts (g.arrow u v) (free g x u && free g x v) c.arrow).0

  kept_off : (v : ℕ) → IsCarrier g x y h.roots.bits v → has x v ≡ false
  kept_off v (root i) = hedge.apart v (hedge.sets.roots_inside v i)
  kept_off v (next {u} k o c) = off (has x v) (let f = and_parts (free g x u) (free g x v) (and_parts (g.arrow u v) (free g x u && free g x v) c.arrow).1 in
      last v f.1)
    where
      last : (v : ℕ) → free g x v ≡ true → not (has x v) ≡ true
      last v e = (and_parts _ (not (has x v)) e).1

  child : (v : ℕ) → has h.big.bits v ≡ true → has h.roots.bits v ≡ false → IsChildInside g h v (slice_index h.choice.next v)
  child v e r = (hedge.choices v (let l = big_low v e in omega arith)).chosen e r

  carries : (v : ℕ) → has kept v ≡ true → has y v ≡ false → CarriesTo g x y v (slice_index carry v)
  carries = are.carries

  pub links_is : links_of d ≡ h.links.count - 1
  links_is = ap₂ (λ p q. p + q) (length-links h 1 (inner_entries h - 1)) (length-links h (inner_entries h) (h.links.count - inner_entries h))
      ∙ (let s = some_small in let e = some_entry in omega arith)

  own_less : (v : ℕ) → has h.small.bits v ≡ true → before h.small.bits v < size_of h.small.bits
  own_less v e = before-less h.small.bits v 64 e (small_low v e)

  kept_64 : (v : ℕ) → has kept v ≡ true → v < 64
  kept_64 v e = let l = kept_low v (are.sound v e) in omega arith

  top_less : (v : ℕ) → has kept v ≡ true → before kept v < size_of kept
  top_less v e = before-less kept v 64 e (kept_64 v e)

  outer_listed : (v : ℕ) → has h.big.bits v ≡ true → has h.small.bits v ≡ false → is_entry (outer_of h) v ≡ true
  outer_listed v e o = listed g x y h hedge v p.place (inner_entries h) (h.links.count - inner_entries h) p.here
      (late (cases_lt p.place (size_of h.small.bits))) (let l = p.listed in omega arith)
    where
      p : IsPlaced h v
      p = hedge.links.placed v e

      late : (p.place < size_of h.small.bits) ⊎ (size_of h.small.bits ≤ p.place) → inner_entries h ≤ p.place
      late (inl l) = absurd (clash (has h.small.bits v) (p.small_first.1 l) o)
      late (inr ge) = omega arith

  ok : IsParityHedge g (has x) d
  ok = record {
    big_low = big_low;
    small_big = small_big;
    roots_small = λ v e. hedge.sets.roots_inside v e;
    small_outside = λ v e. hedge.apart v e;
    kept_low = λ v e. kept_low v (are.sound v e);
    kept_outside = λ v e. kept_off v (are.sound v e);
    roots_kept = λ v e. are.complete v (root e);
    choice_arrow = λ v e r. (child v e r).arrow;
    choice_big = λ v e r. (child v e r).in_big;
    choice_small = λ v e r. (child v (small_big v e) r).in_small e;
    carry_arrow = λ v e o. (and_parts (g.arrow v (slice_index carry v)) (free g x v && free g x (slice_index carry v)) (carries v e o).arrow).0;
    carry_kept = λ v e o. are.complete (slice_index carry v) (next (are.sound v e) o (carries v e o));
    inner_inside = inside g x y h hedge 1 (inner_entries h - 1) (omega arith) (let e = some_entry in let s = some_small in omega arith)
        (let e = some_entry in let s = some_small in omega arith);
    inner_low = below g x y h hedge 1 (inner_entries h - 1) (omega arith) (let e = some_entry in let s = some_small in omega arith);
    outer_low = below g x y h hedge (inner_entries h) (h.links.count - inner_entries h) (let e = some_entry in let s = some_small in omega arith)
        (let e = some_entry in let s = some_small in omega arith);
    outer_rooted = rooted g x y h hedge (has h.small.bits) (inner_entries h) (h.links.count - inner_entries h)
        (let e = some_entry in let s = some_small in omega arith) (let e = some_entry in let s = some_small in omega arith)
        (λ i lt. entry_small g x y h hedge i (omega arith) (omega arith));
    own_low = λ v e. let l = own_less v e in omega arith;
    top_low = λ v e. let l = top_less v e in omega arith;
    own_high = λ v e. let l = links_is in omega arith;
    top_high = λ v e. let l = links_is in omega arith;
    links_low = let l = links_is in omega arith;
    cut = hedge.meets.vertex;
    cut_x = hedge.meets.in_second;
    cut_listed = outer_listed hedge.meets.vertex hedge.meets.in_first (true_not (has h.small.bits hedge.meets.vertex) (has x hedge.meets.vertex)
        (λ s. hedge.apart hedge.meets.vertex s) hedge.meets.in_second);
  }

  are_outer : (k c : ℕ) → size_of h.small.bits ≤ k → 0 < k → k + c ≤ h.links.count → AreOuter d (links_from h k c)
  are_outer k zero late pos le = tt
  are_outer k (suc c) late pos le = (
    and_from (has h.big.bits (slice_index h.links.found k)) (not (has h.small.bits (slice_index h.links.found k))) (hedge.links.inside k (omega arith))
        (on (has h.small.bits (slice_index h.links.found k)) (outside (has h.small.bits (slice_index h.links.found k)) refl)),
    partner_big (hedge.links.partners k pos (omega arith)).place (let q = (hedge.links.partners k pos (omega arith)).earlier in omega arith)
        (hedge.links.partners k pos (omega arith)).is,
    are_outer (suc k) c (omega arith) (omega arith) (omega arith),
  )
    where
      outside : (b : Bool) → has h.small.bits (slice_index h.links.found k) ≡ b → has h.small.bits (slice_index h.links.found k) ≡ false
      outside true e = absurd (let l = small_entry g x y h hedge k (omega arith) e in omega arith)
      outside false e = e

      partner_big : (i : ℕ) → i < h.links.count → slice_index h.links.found i ≡ slice_index h.links.partner k → has h.big.bits (slice_index h.links.partner k)
          ≡ true
      partner_big i lt e = sym (ap (has h.big.bits) e) ∙ hedge.links.inside i lt

  outer_are : AreOuter d (outer_of h)
  outer_are = go (cases_lt h.links.count (size_of h.small.bits))
    where
      go : (h.links.count < size_of h.small.bits) ⊎ (size_of h.small.bits ≤ h.links.count) → AreOuter d (outer_of h)
      go (inl l) = let z : h.links.count - inner_entries h ≡ 0 = omega arith in rw z tt
      go (inr ge) = are_outer (inner_entries h) (h.links.count - inner_entries h) (omega arith) (let s = some_small in omega arith) (omega arith)

  tree : IsTree g.vertices d
  tree = record {
    first = slice_index h.links.found 0;
    first_low = entry_low g x y h hedge 0 some_entry;
    apart = apart g x y h hedge 1 (inner_entries h - 1) (omega arith) (let e = some_entry in let s = some_small in omega arith);
    ordered = ordered g x y h hedge 1 (inner_entries h - 1) (omega arith) (let e = some_entry in let s = some_small in omega arith);
    all = λ v e ne. inner_listed v e ne;
    outer = outer_are;
  }
    where
      inner_listed : (v : ℕ) → has h.small.bits v ≡ true → v ≢ slice_index h.links.found 0 → is_entry (inner_of h) v ≡ true
      inner_listed v e ne = listed g x y h hedge v p.place 1 (inner_entries h - 1) p.here (pos (cases_lt 0 p.place))
          (let l = p.listed in let s = p.small_first.0 e in omega arith)
        where
          p : IsPlaced h v
          p = hedge.links.placed v (small_big v e)

          pos : (0 < p.place) ⊎ (p.place ≤ 0) → 1 ≤ p.place
          pos (inl l) = l
          pos (inr ge) = absurd (ne (sym p.here ∙ ap (λ i. slice_index h.links.found i) (let z : p.place ≡ 0 = omega arith in z)))

  own_at : (v : ℕ) → has h.small.bits v ≡ true → get_or (members_below (has h.small.bits) 64) (small_cause h v - (h.links.count - 1)) 0 ≡ v
  own_at v e = ap (λ i. get_or (members_below (has h.small.bits) 64) i 0)
      (let z : small_cause h v - (h.links.count - 1) ≡ before h.small.bits v = omega arith in z) ∙ numbered h.small.bits v 64 e (small_low v e)

  top_at : (v : ℕ) → has kept v ≡ true → get_or (members_below (has kept) 64) (kept_cause h kept v - ((h.links.count - 1) + size_of h.small.bits)) 0 ≡ v
  top_at v e = ap (λ i. get_or (members_below (has kept) 64) i 0) (let z : kept_cause h kept v - ((h.links.count - 1) + size_of h.small.bits)
      ≡ before kept v = omega arith in z) ∙ numbered kept v 64 e (kept_64 v e)

  own_side : (v : ℕ) → has h.small.bits v ≡ true → ltb (small_cause h v) ((h.links.count - 1) + size_of h.small.bits) ≡ true
  own_side v e = lt-ltb (small_cause h v) ((h.links.count - 1) + size_of h.small.bits) (let l = own_less v e in omega arith)

  top_side : (v : ℕ) → ltb (kept_cause h kept v) ((h.links.count - 1) + size_of h.small.bits) ≡ false
  top_side v = le-ltb (kept_cause h kept v) ((h.links.count - 1) + size_of h.small.bits) (omega arith)

  numbers : IsNumbered d
  numbers = record {
    holder = λ j. cond (ltb j ((h.links.count - 1) + size_of h.small.bits)) (get_or (members_below (has h.small.bits) 64) (j - (h.links.count - 1)) 0)
        (get_or (members_below (has kept) 64) (j - ((h.links.count - 1) + size_of h.small.bits)) 0);
    is_own = λ j. ltb j ((h.links.count - 1) + size_of h.small.bits);
    own_holder = λ v e. rw (own_side v e) (own_at v e);
    top_holder = λ v e. rw (top_side v) (top_at v e);
    own_is = own_side;
    top_is = λ v e. top_side v;
    apart = apart g x y h hedge (inner_entries h) (h.links.count - inner_entries h) (let e = some_entry in let s = some_small in omega arith)
        (let e = some_entry in let s = some_small in omega arith);
    ordered = ordered g x y h hedge (inner_entries h) (h.links.count - inner_entries h) (let e = some_entry in let s = some_small in omega arith)
        (let e = some_entry in let s = some_small in omega arith);
    listed = λ v e. let p = and_parts (has h.big.bits v) (not (has h.small.bits v)) e in outer_listed v p.0 (off (has h.small.bits v) p.1);
  }

  once : (j : ℕ) → links_of d ≤ j → j < d.causes → privates g.vertices d j ≡ true
  once j from to = go (cases_lt j ((h.links.count - 1) + size_of h.small.bits))
    where
      go : (j < (h.links.count - 1) + size_of h.small.bits) ⊎ ((h.links.count - 1) + size_of h.small.bits ≤ j) → privates g.vertices d j ≡ true
      go (inl l) = own (find h.small.bits 64 (j - (h.links.count - 1)) (let e = links_is in omega arith))
        where
          own : (v : ℕ) × (v < 64) × (has h.small.bits v ≡ true) × (before h.small.bits v ≡ j - (h.links.count - 1)) → privates g.vertices d j ≡ true
          own w = ap₂ differ
              (odd_single g.vertices (has h.small.bits) (small_cause h) j w.0 (big_low w.0 (small_big w.0 w.2)) w.2
              (let b = w.3 in let e = links_is in omega arith)
              (λ u i q. same_number h.small.bits u w.0 i w.2 (let b = w.3 in let e = links_is in omega arith)))
              (odd_none g.vertices (has kept) (kept_cause h kept) j (λ v e q. absurd (omega arith)))
      go (inr ge) = top (find kept 64 (j - ((h.links.count - 1) + size_of h.small.bits)) (omega arith))
        where
          top : (v : ℕ) × (v < 64) × (has kept v ≡ true) × (before kept v ≡ j - ((h.links.count - 1) + size_of h.small.bits)) → privates g.vertices d j ≡ true
          top w = ap₂ differ
              (odd_none g.vertices (has h.small.bits) (small_cause h) j (λ v e q. absurd (let l = own_less v e in omega arith)))
              (odd_single g.vertices (has kept) (kept_cause h kept) j w.0 (kept_low w.0 (are.sound w.0 w.2)) w.2 (let b = w.3 in omega arith)
              (λ u i q. same_number kept u w.0 i w.2 (let b = w.3 in omega arith)))

  pub whole : IsWholeHedge g (has x) d
  whole = record {
    hedge = ok;
    tree = tree;
    numbered = numbers;
    once = once;
    inner_joined = joined g x y h hedge 1 (inner_entries h - 1) (omega arith) (let e = some_entry in let s = some_small in omega arith);
    outer_joined = joined g x y h hedge (inner_entries h) (h.links.count - inner_entries h) (let e = some_entry in let s = some_small in omega arith)
        (let e = some_entry in let s = some_small in omega arith);
    target_outside = λ v e. true_not (has x v) (has y v) (λ s. x_y v s) e;
  }
