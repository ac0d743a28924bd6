-- Bits on the pairs of a tree that meet a target at each vertex.
use Rattle.std.proofs.Common.{ℕ, suc, ◌≡◌, ◌≤◌, Bool, true, false, cond, eqb, not, refl, sym, ap, ◌∙◌, ◌||◌, ◌&&◌, List, [], ◌∷◌, arith, ne_eqb, eqb-true}
use Rattle.finite_models.proofs.SumLaws.{eqb-refl}
use Rattle.finite_models.specs.Vocabulary.{differ, odd_below}
use Rattle.counter_models.specs.Links.{Link, at_vertex, is_entry, IsNoEntry, EndsDiffer, AreOrdered, AreBelow}
use Rattle.counter_models.proofs.ParityLaws.{differ-comm, differ-false, differ-self, odd-congr, odd-differ, odd-one}

-- what is left of the target d, the pairs being solved from the last to the first
abbrev pub residual : List Link → (ℕ → Bool) → ℕ → Bool
residual [] d v = d v
residual (p ∷ r) d v = cond (eqb v p.entry) false (differ (residual r d v) (eqb v p.partner && residual r d p.entry))

-- the bit of the pair at place j, the first pair having the place k
abbrev pub bits : ℕ → List Link → (ℕ → Bool) → ℕ → Bool
bits k [] d j = false
bits k (p ∷ r) d j = cond (eqb j k) (residual r d p.entry) (bits (suc k) r d j)

pub at_vertex-congr : (k : ℕ) (r : List Link) (x y : ℕ → Bool) (v : ℕ) → ((j : ℕ) → k ≤ j → x j ≡ y j) → at_vertex k r x v ≡ at_vertex k r y v
at_vertex-congr k [] x y v h = refl
at_vertex-congr k (p ∷ r) x y v h =
    ap (λ b. differ (differ (eqb v p.entry) (eqb v p.partner) && b) (at_vertex (suc k) r x v)) (h k (omega arith))
    ∙ ap (differ (differ (eqb v p.entry) (eqb v p.partner) && y k)) (at_vertex-congr (suc k) r x y v (λ j le. h j (omega arith)))

-- one more pair: a is what the later pairs give at v, t the residual at v, c the residual at the entry
one_more : (e p c a t : Bool) → (e ≡ true → p ≡ true → ⊥) → (e ≡ true → t ≡ c) → differ (differ (differ e p && c) a) (cond e false (differ t (p && c)))
    ≡ differ a t
one_more true true c a t h k = absurd (h refl refl)
one_more true false true a t h k = rw (k refl) (differ-false (differ true a) ∙ differ-comm true a)
one_more true false false a t h k = rw (k refl) refl
one_more false true true a t h k = at a t
  where
    at : (a t : Bool) → differ (not a) (differ t true) ≡ differ a t
    at true true = refl
    at true false = refl
    at false true = refl
    at false false = refl
one_more false true false a t h k = ap (differ a) (differ-false t)
one_more false false c a t h k = ap (differ a) (differ-false t)

-- V1: the bits at a vertex and what is left there make the target
pub met : (k : ℕ) (r : List Link) (d : ℕ → Bool) (v : ℕ) → EndsDiffer r → differ (at_vertex k r (bits k r d) v) (residual r d v) ≡ d v
met k [] d v h = refl
met k (p ∷ r) d v h =
    ap (λ b. differ (differ (differ (eqb v p.entry) (eqb v p.partner) && b) (at_vertex (suc k) r (bits k (p ∷ r) d) v)) (residual (p ∷ r) d v))
    (rw (eqb-refl k) refl)
    ∙ ap (λ b. differ (differ (differ (eqb v p.entry) (eqb v p.partner) && residual r d p.entry) b) (residual (p ∷ r) d v))
    (at_vertex-congr (suc k) r (bits k (p ∷ r) d) (bits (suc k) r d) v (λ j le. rw (ne_eqb j k (omega arith)) refl))
    ∙ one_more (eqb v p.entry) (eqb v p.partner) (residual r d p.entry) (at_vertex (suc k) r (bits (suc k) r d) v) (residual r d v)
    (λ e f. h.0 (sym (eqb-true v p.entry e) ∙ eqb-true v p.partner f)) (λ e. ap (residual r d) (eqb-true v p.entry e))
    ∙ met (suc k) r d v h.1

no_entry : (r : List Link) (v : ℕ) → IsNoEntry r v → is_entry r v ≡ true → ⊥
no_entry [] v h e = absurd (grind (arith, e))
no_entry (p ∷ r) v h e = go (eqb v p.entry) refl e (no_entry r v h.1)
  where
    go : (c : Bool) → eqb v p.entry ≡ c → (c || is_entry r v) ≡ true → (is_entry r v ≡ true → ⊥) → ⊥
    go true q e k = h.0 (eqb-true v p.entry q)
    go false q e k = k e

-- V2: nothing is left at an entry
pub settled : (r : List Link) (d : ℕ → Bool) (v : ℕ) → AreOrdered r → is_entry r v ≡ true → residual r d v ≡ false
settled [] d v h e = absurd (grind (arith, e))
settled (p ∷ r) d v h e = go (eqb v p.entry) (eqb v p.partner) refl refl e (settled r d v h.1)
  where
    go : (c f : Bool) → eqb v p.entry ≡ c → eqb v p.partner ≡ f → (c || is_entry r v) ≡ true → (is_entry r v ≡ true → residual r d v ≡ false)
        → cond c false (differ (residual r d v) (f && residual r d p.entry)) ≡ false
    go true f q k e ih = refl
    go false true q k e ih = absurd (no_entry r p.partner h.0 (ap (is_entry r) (sym (eqb-true v p.partner k)) ∙ e))
    go false false q k e ih = differ-false (residual r d v) ∙ ih e

moved : (e p t c : Bool) → (e ≡ true → p ≡ true → ⊥) → (e ≡ true → t ≡ c) → cond e false (differ t (p && c)) ≡ differ t (differ (e && c) (p && c))
moved true true t c h k = absurd (h refl refl)
moved true false t c h k = rw (k refl) (sym (ap (differ c) (differ-false c) ∙ differ-self c))
moved false p t c h k = refl

pub kept_parity : (n : ℕ) (r : List Link) (d : ℕ → Bool) → EndsDiffer r → AreBelow n r → odd_below n (residual r d) ≡ odd_below n d
kept_parity n [] d h b = refl
kept_parity n (p ∷ r) d h b =
    odd-congr n (residual (p ∷ r) d) (λ v. differ (residual r d v) (differ (eqb v p.entry && residual r d p.entry) (eqb v p.partner && residual r d p.entry)))
    (λ v lt. moved (eqb v p.entry) (eqb v p.partner) (residual r d v) (residual r d p.entry)
    (λ e f. h.0 (sym (eqb-true v p.entry e) ∙ eqb-true v p.partner f)) (λ e. ap (residual r d) (eqb-true v p.entry e)))
    ∙ odd-differ n (residual r d) (λ v. differ (eqb v p.entry && residual r d p.entry) (eqb v p.partner && residual r d p.entry))
    ∙ ap (differ (odd_below n (residual r d)))
    (odd-differ n (λ v. eqb v p.entry && residual r d p.entry) (λ v. eqb v p.partner && residual r d p.entry)
    ∙ ap (λ q. differ q (odd_below n (λ v. eqb v p.partner && residual r d p.entry))) (odd-one n p.entry (λ v. residual r d p.entry) b.0)
    ∙ ap (differ (residual r d p.entry)) (odd-one n p.partner (λ v. residual r d p.entry) b.1)
    ∙ differ-self (residual r d p.entry))
    ∙ differ-false (odd_below n (residual r d))
    ∙ kept_parity n r d h.1 b.2
