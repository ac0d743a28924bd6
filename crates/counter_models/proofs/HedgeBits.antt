-- The parity of the event's carried bits, as a parity of causes.
use Rattle.std.proofs.Common.{ℕ, suc, ◌+◌, ◌≡◌, ◌<◌, ◌≤◌, Bool, true, false, cond, eqb, not, refl, sym, ap, ap₂, ◌∙◌, ◌||◌, ◌&&◌, List, [], ◌∷◌}
use Rattle.std.proofs.Common.{length, arith, ne_eqb, eqb-true}
use Rattle.finite_models.proofs.Bools.{and_first, not_both}
use Rattle.finite_models.proofs.SumLaws.{eqb-refl}
use Rattle.finite_models.specs.Vocabulary.{differ, odd_below}
use Rattle.counter_models.specs.Links.{Link, at_vertex, is_entry, AreBelow, AreInside, AreRooted}
use Rattle.counter_models.proofs.ParityLaws.{differ-false, odd-congr, odd-false, odd-differ, odd-and, odd-one, fibres, and-differ, and-assoc, and-comm}

-- ---- parities by groups
pub odd-split : (n : ℕ) (A B h : ℕ → Bool) → odd_below n (λ v. A v && h v)
    ≡ differ (odd_below n (λ v. (A v && B v) && h v)) (odd_below n (λ v. (A v && not (B v)) && h v))
odd-split n A B h = odd-congr n (λ v. A v && h v) (λ v. differ ((A v && B v) && h v) ((A v && not (B v)) && h v)) (λ v lt. at (A v) (B v) (h v))
    ∙ odd-differ n (λ v. (A v && B v) && h v) (λ v. (A v && not (B v)) && h v)
  where
    at : (a b h : Bool) → (a && h) ≡ differ ((a && b) && h) ((a && not b) && h)
    at true true true = refl
    at true true false = refl
    at true false h = refl
    at false b h = refl

-- the equations of the vertices in G, summed
pub group_sum : (n : ℕ) (G C : ℕ → Bool) (choice : ℕ → ℕ) (h L : ℕ → Bool) → ((u : ℕ) → C u ≡ true → choice u < n)
    → ((v : ℕ) → v < n → G v ≡ true → h v ≡ differ (odd_below n (λ u. C u && (eqb v (choice u) && h u))) (L v))
    → odd_below n (λ v. G v && h v) ≡ differ (odd_below n (λ u. C u && (G (choice u) && h u))) (odd_below n (λ v. G v && L v))
group_sum n G C choice h L low eq =
    odd-congr n (λ v. G v && h v) (λ v. differ (G v && odd_below n (λ u. C u && (eqb v (choice u) && h u))) (G v && L v))
    (λ v lt. at v lt (G v) refl ∙ and-differ (G v) (odd_below n (λ u. C u && (eqb v (choice u) && h u))) (L v))
    ∙ odd-differ n (λ v. G v && odd_below n (λ u. C u && (eqb v (choice u) && h u))) (λ v. G v && L v)
    ∙ ap (λ r. differ r (odd_below n (λ v. G v && L v))) (fibres n G C choice h low)
  where
    at : (v : ℕ) → v < n → (c : Bool) → G v ≡ c → (G v && h v) ≡ (G v && differ (odd_below n (λ u. C u && (eqb v (choice u) && h u))) (L v))
    at v lt true e = rw e (eq v lt e)
    at v lt false e = rw e refl

differ-cancel : (a b c d : Bool) → differ a b ≡ differ (differ b c) d → a ≡ differ c d
differ-cancel true true c d e = back c d e
  where
    back : (c d : Bool) → false ≡ differ (not c) d → true ≡ differ c d
    back true true e = absurd (grind (arith, e))
    back true false e = refl
    back false true e = refl
    back false false e = absurd (grind (arith, e))
differ-cancel true false c d e = e
differ-cancel false true c d e = back c d e
  where
    back : (c d : Bool) → true ≡ differ (not c) d → false ≡ differ c d
    back true true e = refl
    back true false e = absurd (grind (arith, e))
    back false true e = absurd (grind (arith, e))
    back false false e = refl
differ-cancel false false c d e = e

-- The roots' bits in terms of the causes: G holds the roots, and its other members choose in G. What comes into G from outside is counted too.
pub roots_sum : (n : ℕ) (G C R : ℕ → Bool) (choice : ℕ → ℕ) (h L : ℕ → Bool) → ((u : ℕ) → C u ≡ true → choice u < n)
    → ((v : ℕ) → v < n → G v ≡ true → h v ≡ differ (odd_below n (λ u. C u && (eqb v (choice u) && h u))) (L v))
    → ((v : ℕ) → R v ≡ true → G v ≡ true) → ((v : ℕ) → C v ≡ true → R v ≡ false) → ((v : ℕ) → G v ≡ true → R v ≡ false → (C v && G (choice v)) ≡ true)
    → odd_below n (λ v. R v && h v) ≡ differ (odd_below n (λ u. ((C u && G (choice u)) && not (G u)) && h u)) (odd_below n (λ v. G v && L v))
roots_sum n G C R choice h L low eq rg cr gc =
    differ-cancel (odd_below n (λ v. R v && h v)) (odd_below n (λ v. (G v && not (R v)) && h v))
    (odd_below n (λ u. ((C u && G (choice u)) && not (G u)) && h u)) (odd_below n (λ v. G v && L v))
    (ap (λ r. differ r (odd_below n (λ v. (G v && not (R v)) && h v)))
    (odd-congr n (λ v. R v && h v) (λ v. (G v && R v) && h v) (λ v lt. ap (λ r. r && h v) (in_g (G v) (R v) (rg v))))
    ∙ sym (odd-split n G R h)
    ∙ group_sum n G C choice h L low eq
    ∙ ap (λ r. differ r (odd_below n (λ v. G v && L v)))
    (odd-congr n (λ u. C u && (G (choice u) && h u)) (λ u. (C u && G (choice u)) && h u) (λ u lt. and-assoc (C u) (G (choice u)) (h u))
    ∙ odd-split n (λ u. C u && G (choice u)) G h
    ∙ ap (λ r. differ r (odd_below n (λ u. ((C u && G (choice u)) && not (G u)) && h u)))
    (odd-congr n (λ u. ((C u && G (choice u)) && G u) && h u) (λ v. (G v && not (R v)) && h v)
    (λ u lt. ap (λ r. r && h u) (same (C u && G (choice u)) (G u) (R u) (λ e. cr u (and_first (C u) (G (choice u)) e)) (gc u))))))
  where
    in_g : (g r : Bool) → (r ≡ true → g ≡ true) → r ≡ (g && r)
    in_g true r h = refl
    in_g false true h = sym (h refl)
    in_g false false h = refl

    same : (c g r : Bool) → (c ≡ true → r ≡ false) → (g ≡ true → r ≡ false → c ≡ true) → (c && g) ≡ (g && not r)
    same true true r h k = rw (h refl) refl
    same true false r h k = refl
    same false true true h k = refl
    same false true false h k = k refl refl
    same false false r h k = refl

-- ---- links
-- the parity of the bits of the pairs with exactly one end in G
abbrev pub crossing : ℕ → List Link → (ℕ → Bool) → (ℕ → Bool) → Bool
crossing k [] G w = false
crossing k (p ∷ r) G w = differ (differ (G p.entry) (G p.partner) && w k) (crossing (suc k) r G w)

pub links_sum : (n k : ℕ) (r : List Link) (G w : ℕ → Bool) → AreBelow n r → odd_below n (λ v. G v && at_vertex k r w v) ≡ crossing k r G w
links_sum n k [] G w b = odd-congr n (λ v. G v && false) (λ v. false) (λ v lt. and-comm (G v) false) ∙ odd-false n
links_sum n k (p ∷ r) G w b =
    odd-congr n (λ v. G v && at_vertex k (p ∷ r) w v) (λ v. differ (w k && differ (eqb v p.entry && G v) (eqb v p.partner && G v))
    (G v && at_vertex (suc k) r w v))
    (λ v lt. and-differ (G v) (differ (eqb v p.entry) (eqb v p.partner) && w k) (at_vertex (suc k) r w v)
    ∙ ap (λ q. differ q (G v && at_vertex (suc k) r w v)) (at (G v) (eqb v p.entry) (eqb v p.partner) (w k)))
    ∙ odd-differ n (λ v. w k && differ (eqb v p.entry && G v) (eqb v p.partner && G v)) (λ v. G v && at_vertex (suc k) r w v)
    ∙ ap (λ q. differ q (odd_below n (λ v. G v && at_vertex (suc k) r w v)))
    (odd-and n (w k) (λ v. differ (eqb v p.entry && G v) (eqb v p.partner && G v))
    ∙ ap (λ q. w k && q) (odd-differ n (λ v. eqb v p.entry && G v) (λ v. eqb v p.partner && G v)
    ∙ ap₂ differ (odd-one n p.entry G b.0) (odd-one n p.partner G b.1))
    ∙ and-comm (w k) (differ (G p.entry) (G p.partner)))
    ∙ ap (differ (differ (G p.entry) (G p.partner) && w k)) (links_sum n (suc k) r G w b.2)
  where
    at : (g e p w : Bool) → (g && (differ e p && w)) ≡ (w && differ (e && g) (p && g))
    at true true true true = refl
    at true true true false = refl
    at true true false true = refl
    at true true false false = refl
    at true false true true = refl
    at true false true false = refl
    at true false false true = refl
    at true false false false = refl
    at false true true true = refl
    at false true true false = refl
    at false true false true = refl
    at false true false false = refl
    at false false true true = refl
    at false false true false = refl
    at false false false true = refl
    at false false false false = refl

pub none_crossing : (k : ℕ) (r : List Link) (G w : ℕ → Bool) → AreInside G r → crossing k r G w ≡ false
none_crossing k [] G w h = refl
none_crossing k (p ∷ r) G w h = rw (h.0, h.1) (none_crossing (suc k) r G w h.2)

-- whether the pair at place j has exactly one end in G
abbrev pub crosses : ℕ → List Link → (ℕ → Bool) → ℕ → Bool
crosses k [] G j = false
crosses k (p ∷ r) G j = cond (eqb j k) (differ (G p.entry) (G p.partner)) (crosses (suc k) r G j)

crosses_before : (k : ℕ) (r : List Link) (G : ℕ → Bool) (j : ℕ) → j < k → crosses k r G j ≡ false
crosses_before k [] G j lt = refl
crosses_before k (p ∷ r) G j lt = rw (ne_eqb j k (omega arith)) (crosses_before (suc k) r G j (omega arith))

pub crossing_by_causes : (m k : ℕ) (r : List Link) (G w : ℕ → Bool) → k + length r ≤ m → crossing k r G w ≡ odd_below m (λ j. crosses k r G j && w j)
crossing_by_causes m k [] G w le = sym (odd-false m)
crossing_by_causes m k (p ∷ r) G w le =
    ap₂ differ (sym (odd-one m k (λ j. differ (G p.entry) (G p.partner) && w j) (omega arith))) (crossing_by_causes m (suc k) r G w (omega arith))
    ∙ sym (odd-differ m (λ j. eqb j k && (differ (G p.entry) (G p.partner) && w j)) (λ j. crosses (suc k) r G j && w j))
    ∙ odd-congr m (λ j. differ (eqb j k && (differ (G p.entry) (G p.partner) && w j)) (crosses (suc k) r G j && w j)) (λ j. crosses k (p ∷ r) G j && w j)
    (λ j lt. at j (eqb j k) refl)
  where
    at : (j : ℕ) (c : Bool) → eqb j k ≡ c → differ (eqb j k && (differ (G p.entry) (G p.partner) && w j)) (crosses (suc k) r G j && w j)
        ≡ (cond (eqb j k) (differ (G p.entry) (G p.partner)) (crosses (suc k) r G j) && w j)
    at j true e = let z : crosses (suc k) r G j ≡ false = crosses_before (suc k) r G j (omega (arith, eqb-true j k e)) in
        rw (e, z) (differ-false (differ (G p.entry) (G p.partner) && w j))
    at j false e = rw e refl

pub record Crossed (k : ℕ) (r : List Link) (G : ℕ → Bool) : Type 0 where
  pub place : ℕ
  pub from : k ≤ place
  pub to : place < k + length r
  pub crossed : crosses k r G place ≡ true

-- where S is inside G and some entry is not, some pair has exactly one end in G
pub some_crosses : (k : ℕ) (r : List Link) (S G : ℕ → Bool) (b : ℕ) → ((v : ℕ) → S v ≡ true → G v ≡ true) → AreRooted S r → is_entry r b ≡ true → G b ≡ false
    → Crossed k r G
some_crosses k [] S G b sg h e o = absurd (grind (arith, e))
some_crosses k (p ∷ r) S G b sg h e o = go (G p.entry) refl (λ grown be. some_crosses (suc k) r (λ v. S v || eqb v p.entry) G b grown h.1 be o)
  where
    grow : G p.entry ≡ true → (v : ℕ) → (S v || eqb v p.entry) ≡ true → G v ≡ true
    grow ge v i = at (S v) (eqb v p.entry) refl refl i
      where
        at : (s q : Bool) → S v ≡ s → eqb v p.entry ≡ q → (s || q) ≡ true → G v ≡ true
        at true q es eq i = sg v es
        at false true es eq i = ap G (eqb-true v p.entry eq) ∙ ge
        at false false es eq i = absurd (grind (arith, i))

    later : G p.entry ≡ true → is_entry r b ≡ true
    later ge = at (eqb b p.entry) refl e
      where
        at : (q : Bool) → eqb b p.entry ≡ q → (q || is_entry r b) ≡ true → is_entry r b ≡ true
        at true q i = absurd (not_both (G b) (ap G (eqb-true b p.entry q) ∙ ge) o)
        at false q i = i

    go : (c : Bool) → G p.entry ≡ c → (((v : ℕ) → (S v || eqb v p.entry) ≡ true → G v ≡ true) → is_entry r b ≡ true → Crossed (suc k) r G) → Crossed k (p ∷ r) G
    go true ge ih = let c = ih (grow ge) (later ge) in
        record { place = c.place; from = omega (arith, c.from); to = omega (arith, c.to); crossed = rw (ne_eqb c.place k (omega (arith, c.from))) c.crossed }
    go false ge ih = record { place = k; from = omega arith; to = omega arith; crossed = rw (eqb-refl k, ge, sg p.partner h.0) refl }
