-- The mechanisms of the data are those of the theory, in range.
use Rattle.std.proofs.Common.{ℕ, zero, suc, ◌+◌, ◌-◌, ◌*◌, ◌/◌, ◌%◌, ◌≡◌, ◌<◌, ◌≤◌, Bool, true, false, cond, eqb, not, ◌==◌, ◌&&◌, ◌||◌, inr, Option}
use Rattle.std.proofs.Common.{Some, None, refl, sym, ap, ap₂, subst, ◌∙◌, List, [], ◌∷◌, map, sum, length, slice_index, arith, eqb-true, eq-eqb}
use Rattle.mixed_graph.specs.Vocabulary.{has, MixedGraph}
use Rattle.finite_models.specs.declared.model.Part.{Part}
use Rattle.finite_models.specs.declared.model.Mechanism.{Mechanism}
use Rattle.finite_models.specs.declared.model.Mechanism.TheVariants.{Table, Parity}
use Rattle.finite_models.specs.Vocabulary.{sum_below, has_hedge, hedged, hedge_bit, carried_bit, part_bit, parity_value, differ, odd_below}
use Rattle.finite_models.proofs.Bools.{same_truth}
use Rattle.finite_models.proofs.Indicators.{number}
use Rattle.hedge.specs.declared.hedge.Hedge.{Hedge}
use Rattle.hedge.specs.Vocabulary.{size_of, IsHedge}
use Rattle.counter_models.specs.Parities.{bit, chosen}
use Rattle.counter_models.specs.Links.{at_vertex}
use Rattle.counter_models.specs.Hedges.{ParityHedge}
use Rattle.counter_models.specs.ParityPairs.{value, chooses, first_bit, second_bit, carries, top_bit, world_bit, event_odd, first_mechanism, second_mechanism}
use Rattle.counter_models.proofs.ParityLaws.{odd-congr, differ-assoc, differ-false}
use Rattle.counter_models.specs.Pairs.{is_linked, link_causes, small_cause, kept_cause, IsHedgePart, IsCarriedPart, IsPartWhere, IsMechanismOf}
use Rattle.counter_models.specs.Pairs.{size_at, in_second}
use Rattle.counter_models.specs.Theory.{links_from, inner_entries, data_of}
use Rattle.counter_models.proofs.Lists.{before-less}
use Rattle.counter_models.proofs.Entries.{length-links, entry_small, small_entry, apart_at}
use Rattle.counter_models.proofs.Sums.{HasParity, parity-add, parity-bit, parity-if, parity-sum, parity-append, parity-one, parity-members, link_bit}
use Rattle.counter_models.proofs.Sums.{at_range, odd-tail}

pub turn : (a b : ℕ) → (a == b) ≡ eqb b a
turn a b = same_truth (a == b) (eqb b a) (λ e. let q : a ≡ b = grind (arith, e) in eq-eqb b a (sym q)) (λ e. let q : b ≡ a = eqb-true b a e in grind (arith, q))

pub mod_two : (x : ℕ) → x % 2 < 2
mod_two x = omega arith

none_sum : (n : ℕ) (p : ℕ → Bool) (f : ℕ → ℕ) → ((k : ℕ) → p k ≡ false) → sum_below n (λ k. cond (p k) (f k) 0) ≡ 0
none_sum zero p f h = refl
none_sum (suc n) p f h = let a = none_sum n p f h in let b : cond (p n) (f n) 0 ≡ 0 = ap (λ r. cond r (f n) 0) (h n) in omega arith

-- a part is there exactly where it has to be
pub part_there : (b : Bool) (P : Part → Type 0) (c : Option Part) (o : Option Part) → IsPartWhere b P o → hedged (Parity o c) ≡ b
part_there true P c (Some p) h = refl
part_there true P c None h = absurd h
part_there false P c (Some p) h = absurd h
part_there false P c None h = refl

pub hedged_is : (h : Hedge) (kept : ℕ) (carry : List ℕ) (s v : ℕ) (m : Mechanism) → IsMechanismOf h kept carry s v m → hedged m ≡ has h.big.bits v
hedged_is h kept carry s v (Table outputs) is = absurd is
hedged_is h kept carry s v (Parity a b) is = part_there (has h.big.bits v) (IsHedgePart h s v) b a is.0

-- the value of a vertex, from the bits of its parts
pub value_is : (n : ℕ) (mechs : List Mechanism) (s u : ℕ → ℕ) (b c : Bool) (P Q : Part → Type 0) (H : Bool) (T : Bool) (r : Bool) → (r ≡ true → b ≡ true)
    → ((p : Part) → P p → part_bit n mechs s u 0 p ≡ number H)
    → ((q : Part) → c ≡ true → Q q → (own : ℕ) → (r ≡ true → own ≡ number H) → part_bit n mechs s u own q ≡ number T)
    → (x y : Option Part) → IsPartWhere b P x → IsPartWhere c Q y → parity_value n mechs s u x y ≡ value b c H T
value_is n mechs s u true true P Q H T r rb ph qt (Some p) (Some q) i j = ap₂ (λ z w. z + 2 * w) (ph p i) (qt q refl j (part_bit n mechs s u 0 p) (λ e. ph p i))
value_is n mechs s u true false P Q H T r rb ph qt (Some p) None i j = ph p i
value_is n mechs s u false true P Q H T r rb ph qt None (Some q) i j = qt q refl j 0 (λ e. let z = rb e in absurd (grind (arith, z)))
value_is n mechs s u false false P Q H T r rb ph qt None None i j = refl
value_is n mechs s u true true P Q H T r rb ph qt None y i j = absurd i
value_is n mechs s u true true P Q H T r rb ph qt (Some p) None i j = absurd j
value_is n mechs s u true false P Q H T r rb ph qt None y i j = absurd i
value_is n mechs s u true false P Q H T r rb ph qt (Some p) (Some q) i j = absurd j
value_is n mechs s u false true P Q H T r rb ph qt (Some p) y i j = absurd i
value_is n mechs s u false true P Q H T r rb ph qt None None i j = absurd j
value_is n mechs s u false false P Q H T r rb ph qt (Some p) y i j = absurd i
value_is n mechs s u false false P Q H T r rb ph qt None (Some q) i j = absurd j

carried_half : (b c : Bool) (x : ℕ) → x < cond b (cond c 4 2) (cond c 2 1) → HasParity (cond b (x / 2) x) (cond b (bit (x / 2)) (bit x))
carried_half true true x lt = parity-bit (x / 2) (omega arith)
carried_half true false x lt = parity-bit (x / 2) (omega arith)
carried_half false true x lt = parity-bit x lt
carried_half false false x lt = parity-bit x (omega arith)

module _ (g : MixedGraph) (few : g.vertices ≤ 64) (x y : ℕ) (h : Hedge) (hedge : IsHedge g x y h) (kept : ℕ) (carry : List ℕ)
    (at_y : (v : ℕ) → v < 64 → has y v ≡ true → slice_index carry v ≡ 64)
    (mechs : List Mechanism) (hedges : (k : ℕ) → k < g.vertices → has_hedge mechs k ≡ has h.big.bits k)
    (s u : ℕ → ℕ) (within : (v : ℕ) → v < g.vertices → s v < size_at h kept v)
    (world : (j : ℕ) → j < (h.links.count - 1) + size_of h.small.bits + size_of kept → u j < 2) where
  abbrev d : ParityHedge
  d = data_of y h kept carry

  -- the carried bit of the data is that of the theory
  pub carried_same : (k : ℕ) → k < g.vertices → HasParity (carried_bit mechs k (s k)) (cond (has h.big.bits k) (bit (s k / 2)) (bit (s k)))
  carried_same k lt = ap (λ b. cond b (s k / 2) (s k) % 2) (hedges k lt) ∙ carried_half (has h.big.bits k) (has kept k) (s k) (within k lt)

  pub event_same : (event : ℕ) → ((v : ℕ) → has event v ≡ (has kept v && has y v))
      → HasParity (sum_below g.vertices (λ v. cond (has event v) (carried_bit mechs v (s v)) 0)) (event_odd g.vertices d s)
  event_same event is = parity-sum g.vertices (λ v. cond (has event v) (carried_bit mechs v (s v)) 0)
      (λ v. (has kept v && has y v) && cond (has h.big.bits v) (bit (s v / 2)) (bit (s v)))
      (λ k lt. ap (λ b. cond b (carried_bit mechs k (s k)) 0 % 2) (is k)
      ∙ parity-if (has kept k && has y k) (carried_bit mechs k (s k)) (cond (has h.big.bits k) (bit (s k / 2)) (bit (s k))) (λ e. carried_same k lt))

  -- who chose v
  chosen_same : (src v : ℕ) → v < g.vertices → (k : ℕ) → k < g.vertices → (has src k ≡ true → has h.big.bits k ≡ true) → (z : Bool)
      → ((has src k && (slice_index h.choice.next k == v)) && z) ≡ ((has src k && not (has h.roots.bits k)) && (eqb v (slice_index h.choice.next k) && z))
  chosen_same src v vlt k klt sb z = go (has src k) (has h.roots.bits k) refl
    where
      none : has h.roots.bits k ≡ true → (slice_index h.choice.next k == v) ≡ false
      none e = let t = (hedge.choices k (omega arith)).none (inr e) in grind (arith, t, vlt, few)

      go : (a r : Bool) → has h.roots.bits k ≡ r → ((a && (slice_index h.choice.next k == v)) && z)
          ≡ ((a && not r) && (eqb v (slice_index h.choice.next k) && z))
      go true true e = ap (λ b. b && z) (none e)
      go true false e = ap (λ b. b && z) (turn (slice_index h.choice.next k) v)
      go false r e = refl

  hedge_sum : (src v : ℕ) → v < g.vertices → ((k : ℕ) → has src k ≡ true → has h.big.bits k ≡ true) → (m : ℕ)
      → ((k : ℕ) → has m k ≡ (has src k && (slice_index h.choice.next k == v)))
      → HasParity (sum_below g.vertices (λ k. cond (has m k) (hedge_bit (s k)) 0)) (chosen g.vertices (chooses d (has src)) d.choice (λ k. bit (s k % 2)) v)
  hedge_sum src v vlt sb m is = parity-sum g.vertices (λ k. cond (has m k) (hedge_bit (s k)) 0)
      (λ k. (has src k && not (has h.roots.bits k)) && (eqb v (slice_index h.choice.next k) && bit (s k % 2)))
      (λ k lt. ap (λ b. cond b (s k % 2) 0 % 2) (is k)
      ∙ parity-if (has src k && (slice_index h.choice.next k == v)) (s k % 2) (bit (s k % 2)) (λ e. parity-bit (s k % 2) (mod_two (s k)))
      ∙ ap number (chosen_same src v vlt k lt (sb k) (bit (s k % 2))))

  carried_sum : (v : ℕ) → v < g.vertices → (m : ℕ) → ((k : ℕ) → has m k ≡ (has kept k && (slice_index carry k == v)))
      → HasParity (sum_below g.vertices (λ k. cond (has m k) (carried_bit mechs k (s k)) 0))
      (chosen g.vertices (carries d) d.carry (λ k. cond (has h.big.bits k) (bit (s k / 2)) (bit (s k))) v)
  carried_sum v vlt m is = parity-sum g.vertices (λ k. cond (has m k) (carried_bit mechs k (s k)) 0)
      (λ k. (has kept k && not (has y k)) && (eqb v (slice_index carry k) && cond (has h.big.bits k) (bit (s k / 2)) (bit (s k))))
      (λ k lt. ap (λ b. cond b (carried_bit mechs k (s k)) 0 % 2) (is k)
      ∙ parity-if (has kept k && (slice_index carry k == v)) (carried_bit mechs k (s k)) (cond (has h.big.bits k) (bit (s k / 2)) (bit (s k)))
      (λ e. carried_same k lt)
      ∙ ap number (same k lt (cond (has h.big.bits k) (bit (s k / 2)) (bit (s k)))))
    where
      same : (k : ℕ) → k < g.vertices → (z : Bool) → ((has kept k && (slice_index carry k == v)) && z)
          ≡ ((has kept k && not (has y k)) && (eqb v (slice_index carry k) && z))
      same k klt z = go (has kept k) (has y k) refl
        where
          none : has y k ≡ true → (slice_index carry k == v) ≡ false
          none e = let t = at_y k (omega arith) e in grind (arith, t, vlt, few)

          go : (a r : Bool) → has y k ≡ r → ((a && (slice_index carry k == v)) && z) ≡ ((a && not r) && (eqb v (slice_index carry k) && z))
          go true true e = ap (λ b. b && z) (none e)
          go true false e = ap (λ b. b && z) (turn (slice_index carry k) v)
          go false r e = refl

  -- ---- links
  same_test : (a b : ℕ) → (a == b) ≡ eqb a b
  same_test a b = same_truth (a == b) (eqb a b) (λ e. let q : a ≡ b = grind (arith, e) in eq-eqb a b q)
      (λ e. let q : a ≡ b = eqb-true a b e in grind (arith, q))

  module _ (v : ℕ) where
    abbrev w : ℕ → Bool
    w = world_bit u

    link_term : (j : ℕ) → j < h.links.count - 1 → (is_linked h j v && w j) ≡ link_bit h v w j
    link_term j lt = ap (λ b. b && w j) (ap₂ (λ a b. a || b) (same_test v (slice_index h.links.found (suc j)))
        (same_test v (slice_index h.links.partner (suc j)))
        ∙ one (eqb v (slice_index h.links.found (suc j))) (eqb v (slice_index h.links.partner (suc j)))
        (λ a b. apart_at g x y h hedge (suc j) (omega arith) (omega arith)
        (sym (eqb-true v (slice_index h.links.found (suc j)) a) ∙ eqb-true v (slice_index h.links.partner (suc j)) b)))
      where
        one : (a b : Bool) → (a ≡ true → b ≡ true → ⊥) → (a || b) ≡ differ a b
        one true true k = absurd (k refl refl)
        one true false k = refl
        one false b k = refl

    drop_true : (a b c : Bool) → b ≡ true → ((a && b) && c) ≡ (a && c)
    drop_true true b c e = ap (λ r. r && c) e
    drop_true false b c e = refl

    drop_false : (a b c : Bool) → b ≡ false → ((a && b) && c) ≡ false
    drop_false true b c e = ap (λ r. r && c) e
    drop_false false b c e = refl

    positive_inner : (1 ≤ inner_entries h) → odd_below (inner_entries h - 1) (link_bit h v w) ≡ at_vertex 0 (links_from h 1 (inner_entries h - 1)) w v
    positive_inner le = ap (λ k. odd_below k (link_bit h v w)) (let e : inner_entries h - 1 ≡ 0 + (inner_entries h - 1) = omega arith in e)
        ∙ at_range h v w 0 (inner_entries h - 1)

    all_links : 1 ≤ inner_entries h → odd_below (h.links.count - 1) (λ j. (is_linked h j v && has h.big.bits (slice_index h.links.found (suc j))) && w j)
        ≡ differ (at_vertex 0 d.inner w v) (at_vertex (length d.inner) d.outer w v)
    all_links le =
        odd-congr (h.links.count - 1) (λ j. (is_linked h j v && has h.big.bits (slice_index h.links.found (suc j))) && w j) (link_bit h v w)
        (λ j lt. drop_true (is_linked h j v) (has h.big.bits (slice_index h.links.found (suc j))) (w j) (hedge.links.inside (suc j) (omega arith))
        ∙ link_term j lt)
        ∙ ap (λ k. odd_below k (link_bit h v w)) (let e : h.links.count - 1 ≡ (inner_entries h - 1) + (h.links.count - inner_entries h) = omega arith in e)
        ∙ at_range h v w (inner_entries h - 1) (h.links.count - inner_entries h)
        ∙ ap₂ differ (positive_inner le)
        (ap₂ (λ a b. at_vertex a (links_from h b (h.links.count - inner_entries h)) w v) (sym (length-links h 1 (inner_entries h - 1)))
        (let e : suc (inner_entries h - 1) ≡ inner_entries h = omega arith in e))

    small_links : 1 ≤ inner_entries h → odd_below (h.links.count - 1) (λ j. (is_linked h j v && has h.small.bits (slice_index h.links.found (suc j))) && w j)
        ≡ at_vertex 0 d.inner w v
    small_links le =
        ap (λ k. odd_below k (λ j. (is_linked h j v && has h.small.bits (slice_index h.links.found (suc j))) && w j))
        (let e : h.links.count - 1 ≡ (inner_entries h - 1) + (h.links.count - inner_entries h) = omega arith in e)
        ∙ odd-tail (inner_entries h - 1) (h.links.count - inner_entries h)
        (λ j. (is_linked h j v && has h.small.bits (slice_index h.links.found (suc j))) && w j)
        (λ j ge lt. drop_false (is_linked h j v) (has h.small.bits (slice_index h.links.found (suc j))) (w j)
        (late j ge lt (has h.small.bits (slice_index h.links.found (suc j))) refl))
        ∙ odd-congr (inner_entries h - 1) (λ j. (is_linked h j v && has h.small.bits (slice_index h.links.found (suc j))) && w j) (link_bit h v w)
        (λ j lt. drop_true (is_linked h j v) (has h.small.bits (slice_index h.links.found (suc j))) (w j)
        (entry_small g x y h hedge (suc j) (omega arith) (omega arith)) ∙ link_term j (omega arith))
        ∙ positive_inner le
      where
        late : (j : ℕ) → inner_entries h - 1 ≤ j → j < (inner_entries h - 1) + (h.links.count - inner_entries h) → (b : Bool)
            → has h.small.bits (slice_index h.links.found (suc j)) ≡ b → has h.small.bits (slice_index h.links.found (suc j)) ≡ false
        late j ge lt true e = absurd (let l = small_entry g x y h hedge (suc j) (omega arith) e in omega arith)
        late j ge lt false e = e

    -- ---- parts
    own_cause : has h.small.bits v ≡ true → u (small_cause h v) < 2
    own_cause e = world (small_cause h v) (let l = before-less h.small.bits v 64 e (let b = hedge.sets.low v (hedge.sets.small_inside v e) in omega arith) in
        omega arith)

    abbrev links_in : ℕ → Bool
    links_in src = odd_below (h.links.count - 1) (λ j. (is_linked h j v && has src (slice_index h.links.found (suc j))) && w j)

    pub hedge_bits : v < g.vertices → (src : ℕ) → ((k : ℕ) → has src k ≡ true → has h.big.bits k ≡ true) → (p : Part) → IsHedgePart h src v p → (own : ℕ)
        → part_bit g.vertices mechs s u own p ≡ number (differ (chosen g.vertices (chooses d (has src)) d.choice (λ k. bit (s k % 2)) v)
        (differ (links_in src) (has h.small.bits v && w (small_cause h v))))
    hedge_bits vlt src sb p is own =
        parity-add (((sum_below g.vertices (λ k. cond (has p.hedge_of.bits k) (hedge_bit (s k)) 0))
        + sum_below g.vertices (λ k. cond (has p.carried_of.bits k) (carried_bit mechs k (s k)) 0)) + cond p.own_hedge own 0) (sum (map u p.causes.items))
        (differ (differ chose false) false) (differ (links_in src) (has h.small.bits v && w (small_cause h v)))
        (parity-add (sum_below g.vertices (λ k. cond (has p.hedge_of.bits k) (hedge_bit (s k)) 0)
        + sum_below g.vertices (λ k. cond (has p.carried_of.bits k) (carried_bit mechs k (s k)) 0)) (cond p.own_hedge own 0) (differ chose false) false
        (parity-add (sum_below g.vertices (λ k. cond (has p.hedge_of.bits k) (hedge_bit (s k)) 0))
        (sum_below g.vertices (λ k. cond (has p.carried_of.bits k) (carried_bit mechs k (s k)) 0)) chose false
        (hedge_sum src v vlt sb p.hedge_of.bits is.hedges)
        (ap (λ r. r % 2) (none_sum g.vertices (has p.carried_of.bits) (λ k. carried_bit mechs k (s k)) is.carrieds)))
        (ap (λ b. cond b own 0 % 2) is.own))
        (ap (λ r. sum (map u r) % 2) is.causes ∙ parity-append u (link_causes h src v) (cond (has h.small.bits v) (small_cause h v ∷ []) []) (links_in src)
        (has h.small.bits v && w (small_cause h v))
        (parity-members u (λ j. is_linked h j v && has src (slice_index h.links.found (suc j))) (h.links.count - 1) (λ j lt. world j (omega arith)))
        (private (has h.small.bits v) (λ e. own_cause e)))
        ∙ ap (λ r. number (differ r (differ (links_in src) (has h.small.bits v && w (small_cause h v)))))
        (differ-false (differ chose false) ∙ differ-false chose)
      where
        chose : Bool
        chose = chosen g.vertices (chooses d (has src)) d.choice (λ k. bit (s k % 2)) v

        private : (b : Bool) → (b ≡ true → u (small_cause h v) < 2) → HasParity (sum (map u (cond b (small_cause h v ∷ []) []))) (b && w (small_cause h v))
        private true k = parity-one u (small_cause h v) (k refl)
        private false k = refl

    pub carried_bits : v < g.vertices → has kept v ≡ true → (q : Part) → IsCarriedPart h kept carry v q → (own : ℕ) (H : Bool)
        → (has h.roots.bits v ≡ true → own ≡ number H)
        → part_bit g.vertices mechs s u own q ≡ number (top_bit g.vertices d s u H v)
    carried_bits vlt k q is own H oh =
        parity-add (((sum_below g.vertices (λ k. cond (has q.hedge_of.bits k) (hedge_bit (s k)) 0))
        + sum_below g.vertices (λ k. cond (has q.carried_of.bits k) (carried_bit mechs k (s k)) 0)) + cond q.own_hedge own 0) (sum (map u q.causes.items))
        (differ came (has h.roots.bits v && H)) (w (kept_cause h kept v))
        (parity-add (sum_below g.vertices (λ k. cond (has q.hedge_of.bits k) (hedge_bit (s k)) 0)
        + sum_below g.vertices (λ k. cond (has q.carried_of.bits k) (carried_bit mechs k (s k)) 0)) (cond q.own_hedge own 0) came (has h.roots.bits v && H)
        (parity-add (sum_below g.vertices (λ k. cond (has q.hedge_of.bits k) (hedge_bit (s k)) 0))
        (sum_below g.vertices (λ k. cond (has q.carried_of.bits k) (carried_bit mechs k (s k)) 0)) false came
        (ap (λ r. r % 2) (none_sum g.vertices (has q.hedge_of.bits) (λ k. hedge_bit (s k)) is.hedges))
        (carried_sum v vlt q.carried_of.bits is.carrieds))
        (ap (λ b. cond b own 0 % 2) is.own ∙ parity-if (has h.roots.bits v) own H (λ e. ap (λ r. r % 2) (oh e) ∙ number_parity H)))
        (ap (λ r. sum (map u r) % 2) is.causes ∙ parity-one u (kept_cause h kept v)
        (world (kept_cause h kept v) (let l = before-less kept v 64 k (omega arith) in omega arith)))
        ∙ ap number (differ-assoc came (has h.roots.bits v && H) (w (kept_cause h kept v)))
      where
        came : Bool
        came = chosen g.vertices (carries d) d.carry (λ k. cond (has h.big.bits k) (bit (s k / 2)) (bit (s k))) v

        number_parity : (b : Bool) → number b % 2 ≡ number b
        number_parity true = refl
        number_parity false = refl

    abbrev second_links : Bool
    second_links = at_vertex 0 d.inner w v

    root_big : has h.roots.bits v ≡ true → has h.big.bits v ≡ true
    root_big e = hedge.sets.small_inside v (hedge.sets.roots_inside v e)

    -- ---- values
    pub first_value : v < g.vertices → 1 ≤ inner_entries h → (a b : Option Part) → IsPartWhere (has h.big.bits v) (IsHedgePart h h.big.bits v) a
        → IsPartWhere (has kept v) (IsCarriedPart h kept carry v) b
        → parity_value g.vertices mechs s u a b ≡ first_mechanism g.vertices d v s u
    first_value vlt le a b i j =
        value_is g.vertices mechs s u (has h.big.bits v) (has kept v) (IsHedgePart h h.big.bits v) (IsCarriedPart h kept carry v)
        (first_bit g.vertices d s u v) (top_bit g.vertices d s u (first_bit g.vertices d s u v) v) (has h.roots.bits v) root_big
        (λ p is. hedge_bits vlt h.big.bits (λ k e. e) p is 0
        ∙ ap (λ r. number (differ (chosen g.vertices (chooses d (has h.big.bits)) d.choice (λ k. bit (s k % 2)) v)
        (differ r (has h.small.bits v && w (small_cause h v))))) (all_links le))
        (λ q k is own oh. carried_bits vlt k q is own (first_bit g.vertices d s u v) oh)
        a b i j

    pub second_value : v < g.vertices → 1 ≤ inner_entries h → (a b : Option Part) → IsPartWhere (has h.big.bits v) (IsHedgePart h (in_second h v) v) a
        → IsPartWhere (has kept v) (IsCarriedPart h kept carry v) b
        → parity_value g.vertices mechs s u a b ≡ second_mechanism g.vertices d v s u
    second_value vlt le a b i j =
        value_is g.vertices mechs s u (has h.big.bits v) (has kept v) (IsHedgePart h (in_second h v) v) (IsCarriedPart h kept carry v)
        (second_bit g.vertices d s u v) (top_bit g.vertices d s u (second_bit g.vertices d s u v) v) (has h.roots.bits v) root_big
        (λ p is. bits (has h.small.bits v) refl p is)
        (λ q k is own oh. carried_bits vlt k q is own (second_bit g.vertices d s u v) oh)
        a b i j
      where
        bits : (c : Bool) → has h.small.bits v ≡ c → (p : Part) → IsHedgePart h (in_second h v) v p → part_bit g.vertices mechs s u 0 p
            ≡ number (second_bit g.vertices d s u v)
        bits true e p is =
            hedge_bits vlt h.small.bits (λ k z. hedge.sets.small_inside k z) p
            (subst (λ (m : ℕ). IsHedgePart h m v p) (ap (λ b. cond b h.small.bits h.big.bits) e) is) 0
            ∙ ap₂ (λ r q. number (differ (chosen g.vertices (chooses d (has h.small.bits)) d.choice (λ k. bit (s k % 2)) v)
            (differ r (q && w (small_cause h v))))) (small_links le) e
            ∙ ap number (sym (ap (λ b. cond b (differ (chosen g.vertices (chooses d (has h.small.bits)) d.choice (λ k. bit (s k % 2)) v)
            (differ (at_vertex 0 d.inner w v) (w (small_cause h v)))) (first_bit g.vertices d s u v)) e))
        bits false e p is =
            hedge_bits vlt h.big.bits (λ k z. z) p (subst (λ (m : ℕ). IsHedgePart h m v p) (ap (λ b. cond b h.small.bits h.big.bits) e) is) 0
            ∙ ap (λ r. number (differ (chosen g.vertices (chooses d (has h.big.bits)) d.choice (λ k. bit (s k % 2)) v)
            (differ r (has h.small.bits v && w (small_cause h v))))) (all_links le)
            ∙ ap number (sym (ap (λ b. cond b (differ (chosen g.vertices (chooses d (has h.small.bits)) d.choice (λ k. bit (s k % 2)) v)
            (differ (at_vertex 0 d.inner w v) (w (small_cause h v)))) (first_bit g.vertices d s u v)) e))
