-- The links of a hedge as lists.
use Rattle.std.proofs.Common.{ℕ, zero, suc, ◌+◌, ◌≡◌, ◌<◌, ◌≤◌, Bool, true, eqb, ◌||◌, ◌⊎◌, inl, inr, refl, sym, ap, ◌∙◌, length, slice_index, arith}
use Rattle.std.proofs.lemmas.Bool.{cases_lt}
use Rattle.mixed_graph.specs.Vocabulary.{has, MixedGraph}
use Rattle.finite_models.proofs.SumLaws.{eqb-refl}
use Rattle.hedge.specs.declared.hedge.Hedge.{Hedge}
use Rattle.hedge.specs.Vocabulary.{size_of, IsPlaced, IsHedge}
use Rattle.counter_models.specs.Links.{is_entry, IsNoEntry, EndsDiffer, AreOrdered, AreBelow, AreInside, AreRooted, LinksAreEdges}
use Rattle.counter_models.specs.Theory.{links_from}
use Rattle.counter_models.proofs.CounterFits.{or_first, or_second}

pub length-links : (h : Hedge) (k c : ℕ) → length (links_from h k c) ≡ c
length-links h k zero = refl
length-links h k (suc c) = ap suc (length-links h (suc k) c)

module _ (g : MixedGraph) (x y : ℕ) (h : Hedge) (hedge : IsHedge g x y h) where
  abbrev found : ℕ → ℕ
  found i = slice_index h.links.found i

  abbrev partner : ℕ → ℕ
  partner i = slice_index h.links.partner i

  placed : (i : ℕ) → i < h.links.count → IsPlaced h (found i)
  placed i lt = hedge.links.placed (found i) (hedge.links.inside i lt)

  pub distinct : (i j : ℕ) → i < h.links.count → j < h.links.count → found i ≡ found j → i ≡ j
  distinct i j il jl e = let p = placed i il in p.once i il refl ∙ sym (p.once j jl (sym e))

  pub entry_small : (i : ℕ) → i < h.links.count → i < size_of h.small.bits → has h.small.bits (found i) ≡ true
  entry_small i il lt = let p = placed i il in p.small_first.1 (let e = p.once i il refl in omega arith)

  pub small_entry : (i : ℕ) → i < h.links.count → has h.small.bits (found i) ≡ true → i < size_of h.small.bits
  small_entry i il s = let p = placed i il in let l = p.small_first.0 s in let e = p.once i il refl in omega arith

  pub entry_low : (i : ℕ) → i < h.links.count → found i < g.vertices
  entry_low i il = hedge.sets.low (found i) (hedge.links.inside i il)

  pub partner_low : (i : ℕ) → 0 < i → i < h.links.count → partner i < g.vertices
  partner_low i pos il = let p = hedge.links.partners i pos il in rw (sym p.is) (entry_low p.place (let e = p.earlier in omega arith))

  pub apart_at : (i : ℕ) → 0 < i → i < h.links.count → found i ≡ partner i → ⊥
  apart_at i pos il e = let p = hedge.links.partners i pos il in let q = distinct i p.place il (let l = p.earlier in omega arith) (e ∙ sym p.is) in let l =
      p.earlier in absurd (omega arith)

  pub below : (k c : ℕ) → 0 < k → k + c ≤ h.links.count → AreBelow g.vertices (links_from h k c)
  below k zero pos le = tt
  below k (suc c) pos le = (entry_low k (omega arith), partner_low k pos (omega arith), below (suc k) c (omega arith) (omega arith))

  pub inside : (k c : ℕ) → 0 < k → k + c ≤ h.links.count → k + c ≤ size_of h.small.bits → AreInside (has h.small.bits) (links_from h k c)
  inside k zero pos le ls = tt
  inside k (suc c) pos le ls = let s = entry_small k (omega arith) (omega arith) in
      (s, (hedge.links.partners k pos (omega arith)).in_small s, inside (suc k) c (omega arith) (omega arith) (omega arith))

  pub apart : (k c : ℕ) → 0 < k → k + c ≤ h.links.count → EndsDiffer (links_from h k c)
  apart k zero pos le = tt
  apart k (suc c) pos le = (apart_at k pos (omega arith), apart (suc k) c (omega arith) (omega arith))

  pub joined : (k c : ℕ) → 0 < k → k + c ≤ h.links.count → LinksAreEdges g (links_from h k c)
  joined k zero pos le = tt
  joined k (suc c) pos le = ((hedge.links.partners k pos (omega arith)).joined, joined (suc k) c (omega arith) (omega arith))

  no_entry : (v place k c : ℕ) → found place ≡ v → place < k → k + c ≤ h.links.count → IsNoEntry (links_from h k c) v
  no_entry v place k zero e lt le = tt
  no_entry v place k (suc c) e lt le = (
    (λ q. let s = distinct place k (omega arith) (omega arith) (e ∙ q) in absurd (omega arith)),
    no_entry v place (suc k) c e (omega arith) (omega arith),
  )

  pub ordered : (k c : ℕ) → 0 < k → k + c ≤ h.links.count → AreOrdered (links_from h k c)
  ordered k zero pos le = tt
  ordered k (suc c) pos le = let p = hedge.links.partners k pos (omega arith) in
      (no_entry (partner k) p.place (suc k) c p.is (let l = p.earlier in omega arith) (omega arith), ordered (suc k) c (omega arith) (omega arith))

  pub rooted : (s : ℕ → Bool) (k c : ℕ) → 0 < k → k + c ≤ h.links.count → ((i : ℕ) → i < k → s (found i) ≡ true) → AreRooted s (links_from h k c)
  rooted s k zero pos le all = tt
  rooted s k (suc c) pos le all = let p = hedge.links.partners k pos (omega arith) in
      (sym (ap s p.is) ∙ all p.place p.earlier, rooted (λ v. s v || eqb v (found k)) (suc k) c (omega arith) (omega arith) (λ i lt. grown i (cases_lt i k) lt))
    where
      grown : (i : ℕ) → (i < k) ⊎ (k ≤ i) → i < suc k → (s (found i) || eqb (found i) (found k)) ≡ true
      grown i (inl l) lt = or_first (s (found i)) (eqb (found i) (found k)) (all i l)
      grown i (inr ge) lt = or_second (s (found i)) (eqb (found i) (found k)) (let e : i ≡ k = omega arith in rw e (eqb-refl (found k)))

  pub listed : (v place k c : ℕ) → found place ≡ v → k ≤ place → place < k + c → is_entry (links_from h k c) v ≡ true
  listed v place k zero e le lt = absurd (omega arith)
  listed v place k (suc c) e le lt = go (cases_lt k place) (λ l. listed v place (suc k) c e l (omega arith))
    where
      go : (k < place) ⊎ (place ≤ k) → (suc k ≤ place → is_entry (links_from h (suc k) c) v ≡ true) → (eqb v (found k) || is_entry (links_from h (suc k) c) v)
          ≡ true
      go (inl l) ih = or_second (eqb v (found k)) (is_entry (links_from h (suc k) c) v) (ih l)
      go (inr ge) ih = or_first (eqb v (found k)) (is_entry (links_from h (suc k) c) v) (let q : place ≡ k = omega arith in rw (sym e, q) (eqb-refl (found k)))
