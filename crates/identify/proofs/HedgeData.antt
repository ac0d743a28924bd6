-- The data of the hedge at which the procedure stops is a hedge.
use Rattle.std.proofs.Common.{ℕ, zero, suc, ◌≡◌, ◌<◌, ◌≤◌, ◌⊎◌, Bool, true, false, ◌&&◌, ◌==◌, length, get_or, inl, inr, refl, sym, subst, ◌∙◌, arith}
use Rattle.std.proofs.lemmas.Bool.{cases_Bool, cases_order, and_parts, or_cases, eqb-true}
use Rattle.mixed_graph.specs.declared.sets.VSet.{VSet}
use Rattle.mixed_graph.specs.Vocabulary.{has, members_below, MixedGraph, IsMixedGraph, taken_by}
use Rattle.mixed_graph.proofs.Members.{one_if, length-members-suc, length-members-zero, length-members-more, length-members-none}
use Rattle.hedge.specs.declared.hedge.Hedge.{Hedge}
use Rattle.hedge.specs.Vocabulary.{IsChoiceOf, IsNextLink, AreLinks, size_of, IsChildInside, IsRightChoice, IsPlaced, AreRightLinks, IsHedge, AreSetsOfHedge}
use Rattle.hedge.proofs.Trees.{place_of_taken, taken_own}
use Rattle.identify.specs.Hedged.{IsHedgeOf}

clash : (b : Bool) → b ≡ true → b ≡ false → ⊥
clash b e f = absurd (grind (arith, e, f))

one_mono : (p q : Bool) → (p ≡ true → q ≡ true) → one_if p ≤ one_if q
one_mono true true h = omega arith
one_mono true false h = absurd (let e = h refl in grind (arith, e))
one_mono false true h = omega arith
one_mono false false h = omega arith

-- a set has no more members than one that holds it
members_mono : (s t : ℕ → Bool) (k : ℕ) → ((u : ℕ) → s u ≡ true → t u ≡ true) → length (members_below s k) ≤ length (members_below t k)
members_mono s t zero h = omega (arith, length-members-zero s, length-members-zero t)
members_mono s t (suc k) h = omega (arith, length-members-suc s k, length-members-suc t k, members_mono s t k h, one_mono (s k) (t k) (h k))

module _ (g : MixedGraph) (valid : IsMixedGraph g) (few : g.vertices ≤ 64) (x y : ℕ) (h : Hedge)
    (sets : AreSetsOfHedge g x y h.big.bits h.small.bits h.roots.bits) (is : IsHedgeOf g h) where
  abbrev entry : ℕ → ℕ
  entry i = get_or h.links.found i 0

  -- ---- choices
  root_out : (v : ℕ) → has h.small.bits v ≡ false → has h.roots.bits v ≡ false
  root_out v o = elim (cases_Bool (has h.roots.bits v)) [ inl t ↦ absurd (clash (has h.small.bits v) (sets.roots_inside v t) o) | inr f ↦ f ]

  inner_child : (v : ℕ) → v < 64 → has h.small.bits v ≡ true → has h.roots.bits v ≡ false → IsChildInside g h v (get_or h.choice.next v 0)
  inner_child v lt i o = go (is.inner v lt i)
    where
      go : IsChoiceOf g (has h.small.bits) (has h.roots.bits) v (get_or h.choice.next v 0) → IsChildInside g h v (get_or h.choice.next v 0)
      go (inr c) = absurd (c.0 (record { member = i; outside = o; reaches = sets.small_reaches v i }))
      go (inl c) =
          let a = and_parts (g.arrow v (get_or h.choice.next v 0)) (has h.small.bits v && has h.small.bits (get_or h.choice.next v 0)) c.1.arrow in
          let b = and_parts (has h.small.bits v) (has h.small.bits (get_or h.choice.next v 0)) a.1 in
          record { arrow = a.0; in_big = sets.small_inside (get_or h.choice.next v 0) b.1; in_small = λ _. b.1 }

  outer_child : (v : ℕ) → v < 64 → has h.big.bits v ≡ true → has h.small.bits v ≡ false → IsChildInside g h v (get_or h.choice.next v 0)
  outer_child v lt i o = go (is.outer v lt o)
    where
      go : IsChoiceOf g (has h.big.bits) (has h.small.bits) v (get_or h.choice.next v 0) → IsChildInside g h v (get_or h.choice.next v 0)
      go (inr c) = absurd (c.0 (record { member = i; outside = o; reaches = sets.big_reaches v i }))
      go (inl c) =
          let a = and_parts (g.arrow v (get_or h.choice.next v 0)) (has h.big.bits v && has h.big.bits (get_or h.choice.next v 0)) c.1.arrow in
          let b = and_parts (has h.big.bits v) (has h.big.bits (get_or h.choice.next v 0)) a.1 in
          record { arrow = a.0; in_big = b.1; in_small = λ s. absurd (clash (has h.small.bits v) s o) }

  inner_none : (v : ℕ) → v < 64 → has h.small.bits v ≡ true → has h.roots.bits v ≡ true → get_or h.choice.next v 0 ≡ 64
  inner_none v lt i r = go (is.inner v lt i)
    where
      go : IsChoiceOf g (has h.small.bits) (has h.roots.bits) v (get_or h.choice.next v 0) → get_or h.choice.next v 0 ≡ 64
      go (inl c) = absurd (clash (has h.roots.bits v) r c.0.outside)
      go (inr c) = c.1

  outer_none : (v : ℕ) → v < 64 → has h.small.bits v ≡ false → has h.big.bits v ≡ false → get_or h.choice.next v 0 ≡ 64
  outer_none v lt o b = go (is.outer v lt o)
    where
      go : IsChoiceOf g (has h.big.bits) (has h.small.bits) v (get_or h.choice.next v 0) → get_or h.choice.next v 0 ≡ 64
      go (inl c) = absurd (clash (has h.big.bits v) c.0.member b)
      go (inr c) = c.1

  right_choice : (v : ℕ) → v < 64 → IsRightChoice g h v
  right_choice v lt = record { chosen = λ i o. chosen i o (cases_Bool (has h.small.bits v)); none = λ n. none n (cases_Bool (has h.small.bits v)) }
    where
      chosen : has h.big.bits v ≡ true → has h.roots.bits v ≡ false → (has h.small.bits v ≡ true) ⊎ (has h.small.bits v ≡ false)
          → IsChildInside g h v (get_or h.choice.next v 0)
      chosen i o (inl s) = inner_child v lt s o
      chosen i o (inr s) = outer_child v lt i s

      none : (has h.big.bits v ≡ false) ⊎ (has h.roots.bits v ≡ true) → (has h.small.bits v ≡ true) ⊎ (has h.small.bits v ≡ false) → get_or h.choice.next v 0
          ≡ 64
      none (inl b) (inl s) = absurd (clash (has h.big.bits v) (sets.small_inside v s) b)
      none (inl b) (inr s) = outer_none v lt s b
      none (inr r) (inl s) = inner_none v lt s r
      none (inr r) (inr s) = absurd (clash (has h.roots.bits v) r (root_out v s))

  -- ---- links
  abbrev l : AreLinks g (has h.small.bits) (has h.big.bits) h.links.found h.links.partner h.links.count
  l = is.links

  new_at : (i : ℕ) → i < h.links.count → taken_by h.links.found i (entry i) ≡ false
  new_at zero lt = refl
  new_at (suc i) lt = go (l.next (suc i) (omega arith) lt)
    where
      go : IsNextLink g (has h.small.bits) (has h.big.bits) (taken_by h.links.found (suc i)) (entry (suc i)) → taken_by h.links.found (suc i) (entry (suc i))
          ≡ false
      go (inl a) = a.new
      go (inr b) = b.1.new

  apart : (i j : ℕ) → i < j → j < h.links.count → entry i ≡ entry j → ⊥
  apart i j lt c e = clash (taken_by h.links.found j (entry j)) (subst (λ w. taken_by h.links.found j w ≡ true) e (taken_own h.links.found j i lt)) (new_at j c)

  -- where not all of small stands before place i, the entry is in small
  early : (j : ℕ) → j < h.links.count → (u : ℕ) → has h.small.bits u ≡ true → taken_by h.links.found j u ≡ false → has h.small.bits (entry j) ≡ true
  early zero c u i o = l.first.member
  early (suc j) c u i o = go (l.next (suc j) (omega arith) c)
    where
      go : IsNextLink g (has h.small.bits) (has h.big.bits) (taken_by h.links.found (suc j)) (entry (suc j)) → has h.small.bits (entry (suc j)) ≡ true
      go (inl a) = a.member
      go (inr b) = absurd (clash (taken_by h.links.found (suc j) u) (b.0 u i) o)

  not_before : (i j : ℕ) → j < i → i < h.links.count → taken_by h.links.found j (entry i) ≡ false
  not_before i j lt c = elim (cases_Bool (taken_by h.links.found j (entry i))) [
    | inl t ↦ absurd (let p = place_of_taken h.links.found j (entry i) t in let q = p.1 in apart p.0 i (omega arith) c p.2)
    | inr f ↦ f
  ]

  -- entries before one in small are in small
  before_small : (i j : ℕ) → j < i → i < h.links.count → has h.small.bits (entry i) ≡ true → has h.small.bits (entry j) ≡ true
  before_small i j lt c s = early j (omega arith) (entry i) s (not_before i j lt c)

  in_big : (i : ℕ) → i < h.links.count → has h.big.bits (entry i) ≡ true
  in_big zero c = sets.small_inside (entry 0) l.first.member
  in_big (suc i) c = go (l.next (suc i) (omega arith) c)
    where
      go : IsNextLink g (has h.small.bits) (has h.big.bits) (taken_by h.links.found (suc i)) (entry (suc i)) → has h.big.bits (entry (suc i)) ≡ true
      go (inl a) = sets.small_inside (entry (suc i)) a.member
      go (inr b) = b.1.member

  counted : (i : ℕ) → i ≤ h.links.count → length (members_below (taken_by h.links.found i) 64) ≡ i
  counted zero le = length-members-none (taken_by h.links.found zero) 64 (λ u. refl)
  counted (suc i) le =
      let low = sets.low (entry i) (in_big i (omega arith)) in
      let m = length-members-more (taken_by h.links.found i) (taken_by h.links.found (suc i)) (entry i) 64 (omega arith) (new_at i (omega arith)) (λ u. refl) in
      omega (arith, m, counted i (omega arith))

  up_to : (p : ℕ) → p < h.links.count → has h.small.bits (entry p) ≡ true → (u : ℕ) → taken_by h.links.found (suc p) u ≡ true → has h.small.bits u ≡ true
  up_to p c s u t = elim (or_cases (taken_by h.links.found p u) (u == entry p) t) [
    | inl b ↦ let q = place_of_taken h.links.found p u b in subst (λ w. has h.small.bits w ≡ true) q.2 (before_small p q.0 q.1 c s)
    | inr e ↦ subst (λ w. has h.small.bits w ≡ true) (sym (eqb-true u (entry p) e)) s
  ]

  small_then : (p : ℕ) → p < h.links.count → has h.small.bits (entry p) ≡ true → p < size_of h.small.bits
  small_then p c s = let m = members_mono (taken_by h.links.found (suc p)) (has h.small.bits) 64 (up_to p c s) in let k = counted (suc p) (omega arith) in
      omega (arith, m, k)

  then_small : (p : ℕ) → p < h.links.count → p < size_of h.small.bits → has h.small.bits (entry p) ≡ true
  then_small p c lt = elim (cases_Bool (has h.small.bits (entry p))) [
    | inl t ↦ t
    | inr f ↦ absurd (
        let m = members_mono (has h.small.bits) (taken_by h.links.found p) 64
        (λ u i. elim (cases_Bool (taken_by h.links.found p u)) [ inl t ↦ t | inr o ↦ absurd (clash (has h.small.bits (entry p)) (early p c u i o) f) ]) in
        let k = counted p (omega arith) in omega (arith, m, k, lt))
  ]

  placed : (v : ℕ) → has h.big.bits v ≡ true → IsPlaced h v
  placed v i = let p = place_of_taken h.links.found h.links.count v (l.all v i) in record {
    place = p.0;
    listed = p.1;
    here = p.2;
    once = λ j c e. once p.0 p.1 j c (e ∙ sym p.2) (cases_order j p.0);
    small_first = (
      λ s. small_then p.0 p.1 (subst (λ w. has h.small.bits w ≡ true) (sym p.2) s),
      λ lt. subst (λ w. has h.small.bits w ≡ true) p.2 (then_small p.0 p.1 lt),
    );
  }
    where
      once : (p : ℕ) → p < h.links.count → (j : ℕ) → j < h.links.count → entry j ≡ entry p → (j ≡ p) ⊎ ((j < p) ⊎ (p < j)) → j ≡ p
      once p pc j c e (inl s) = s
      once p pc j c e (inr (inl lt)) = absurd (apart j p lt pc e)
      once p pc j c e (inr (inr lt)) = absurd (apart p j lt c (sym e))

  right_links : AreRightLinks g h
  right_links = record {
    placed = placed;
    inside = in_big;
    partners = λ i o c. let e = l.partners i o c in record {
      place = e.place;
      earlier = e.earlier;
      is = e.is;
      joined = e.joined;
      in_small = λ s. subst (λ w. has h.small.bits w ≡ true) e.is (before_small i e.place e.earlier c s);
    };
  }

  pub is_hedge : IsHedge g x y h
  is_hedge = record {
    sets = record { low = sets.low; small_inside = sets.small_inside; roots_inside = sets.roots_inside; rooted = (sets.rooted.vertex, sets.rooted.in_first) };
    meets = sets.meets;
    apart = sets.apart;
    choices = right_choice;
    links = right_links;
    roots = sets.reaches;
  }

-- the same where the sets are given apart from the data
pub hedge_from : (g : MixedGraph) → IsMixedGraph g → g.vertices ≤ 64 → (x y : ℕ) (small big roots : VSet) → AreSetsOfHedge g x y big.bits small.bits roots.bits
    → (h : Hedge) → h.big ≡ big → h.small ≡ small → h.roots ≡ roots → IsHedgeOf g h → IsHedge g x y h
hedge_from g valid few x y small big roots sets h b s r is = is_hedge g valid few x y h
    (subst (λ (z : VSet). AreSetsOfHedge g x y z.bits h.small.bits h.roots.bits) (sym b)
    (subst (λ (z : VSet). AreSetsOfHedge g x y big.bits z.bits h.roots.bits) (sym s)
    (subst (λ (z : VSet). AreSetsOfHedge g x y big.bits small.bits z.bits) (sym r) sets))) is
