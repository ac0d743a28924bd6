-- How a tree of links grows.
use Rattle.std.proofs.Common.{◌≡◌, ℕ, zero, suc, ◌+◌, ◌-◌, ◌^◌, ◌<◌, ◌≤◌, ◌⊎◌, ◌↔◌, Bool, true, false, not, ◌&&◌, ◌||◌, ◌==◌, List, length, set}
use Rattle.std.proofs.Common.{get_or, length-set, IsTrue, inl, inr, refl, sym, ap, ◌∙◌, subst, arith}
use Rattle.std.proofs.lemmas.Bool.{cases_Bool, cases_eq, and_parts, and_from, or_left, or_right, or_cases, eqb-true, eq-eqb}
use Rattle.std.proofs.lemmas.List.{get_or-set_same, get_or-set_other}
use Rattle.mixed_graph.specs.Vocabulary.{has, members_below, MixedGraph, IsMixedGraph, taken_by}
use Rattle.mixed_graph.proofs.Masks.{positive_from_has, lt_from_subset}
use Rattle.mixed_graph.proofs.Members.{length-members-lt, length-members-more, length-members-none}
use Rattle.hedge.specs.Linked.{IsLinked, IsJoinedSet, IsInside}
use Rattle.hedge.specs.Linked.IsLinked.{at, by}
use Rattle.hedge.specs.Spanning.{IsLowest, IsJoinedTo, IsNextOf, IsNextLink, IsEarliest, AreLinks}

-- where the negation of a test is true the test is false
pub not_true : (b : Bool) → not b ≡ true → b ≡ false
not_true true e = absurd (cc)
not_true false e = refl

-- ---- the entries that are taken
pub place_of_taken : (list : List ℕ) (n u : ℕ) → IsTrue (taken_by list n u) → (i : ℕ) × (i < n) × (get_or list i 0 ≡ u)
place_of_taken list zero u t = absurd (cc)
place_of_taken list (suc n) u t = elim (or_cases (taken_by list n u) (u == get_or list n 0) t) [
  | inl b ↦ let p = place_of_taken list n u b in (p.0, (let l = p.1 in omega arith), p.2)
  | inr e ↦ (n, omega arith, sym (eqb-true u (get_or list n 0) e))
]

-- each of the first n entries is among the first n
pub taken_own : (list : List ℕ) (n i : ℕ) → i < n → IsTrue (taken_by list n (get_or list i 0))
taken_own list zero i h = absurd (omega arith)
taken_own list (suc n) i h = elim (cases_eq i n) [
  | inl e ↦ or_right _ _ (eq-eqb (get_or list i 0) (get_or list n 0) (ap (λ k. get_or list k 0) e))
  | inr d ↦ or_left _ _ (taken_own list n i (omega arith))
]

taken_by-set : (list : List ℕ) (j x i v : ℕ) → i ≤ j → taken_by (set list j x) i v ≡ taken_by list i v
taken_by-set list j x zero v h = refl
taken_by-set list j x (suc i) v h =
    let e = taken_by-set list j x i v (omega arith) in
    let a : get_or (set list j x) i 0 ≡ get_or list i 0 = get_or-set_other list j i x 0 (omega arith) in cc

taken_by-more : (list : List ℕ) (j x v : ℕ) → j < length list → taken_by (set list j x) (j + 1) v ≡ (taken_by list j v || (v == x))
taken_by-more list j x v room = ap (λ k. taken_by (set list j x) k v) {x = j + 1} {y = suc j} (omega arith)
    ∙ (let a = taken_by-set list j x j v (omega arith) in let b = get_or-set_same list j x 0 room in cc)

-- ---- a joined set that is partly found has a next member
record Edge (g : MixedGraph) (a : ℕ → Bool) (taken : ℕ) : Type 0 where
  entry : ℕ
  member : IsTrue (a entry)
  new : has taken entry ≡ false
  joined : IsJoinedTo g (has taken) entry

edge_of : (g : MixedGraph) (a : ℕ → Bool) (taken start u : ℕ) → IsTrue (has taken start) → IsLinked g a (λ w. w == start) u → has taken u ≡ false
    → Edge g a taken
edge_of g a taken start u t (at e) n = absurd (let same : has taken u ≡ has taken start = ap (has taken) (eqb-true u start e) in cc)
edge_of g a taken start u t (by {v = w} i b r) n = elim (cases_Bool (has taken w)) [
  | inl k ↦ record { entry = u; member = i; new = n; joined = record { other = w; is_found = k; edge = b } }
  | inr o ↦ edge_of g a taken start w t r o
]

-- what the vertices still wanted are, by the sets and what is found
abbrev pub IsWanted : (small big taken wanted : ℕ) → Type 0
IsWanted small big taken wanted =
    ((u : ℕ) × IsTrue (has small u) × (has taken u ≡ false) × ((w : ℕ) → has wanted w ≡ (has small w && not (has taken w))))
    ⊎ (((u : ℕ) → IsTrue (has small u) → IsTrue (has taken u)) × ((w : ℕ) → has wanted w ≡ (has big w && not (has taken w))))

-- the tree so far
pub record Growing (g : MixedGraph) (small big : ℕ) (found partner : List ℕ) (count taken near : ℕ) : Type 0 where
  pub sized : length found ≡ 64
  pub sized_partner : length partner ≡ 64
  pub some : 0 < count
  pub counted : count ≡ length (members_below (taken_by found count) 64)
  pub taken_is : (u : ℕ) → has taken u ≡ taken_by found count u
  pub near_is : (u : ℕ) → IsTrue (has near u) ↔ IsJoinedTo g (has taken) u
  pub first : IsLowest (has small) (get_or found 0 0)
  pub next : (i : ℕ) → 0 < i → i < count → IsNextLink g (has small) (has big) (taken_by found i) (get_or found i 0)
  pub partners : (i : ℕ) → 0 < i → i < count → IsEarliest g found i (get_or found i 0) (get_or partner i 0)
  pub blank : (i : ℕ) → count ≤ i → get_or found i 0 ≡ 0
  pub blank_partner : (i : ℕ) → count ≤ i → get_or partner i 0 ≡ 0
  pub start : get_or partner 0 0 ≡ 0

module _ (g : MixedGraph) (valid : IsMixedGraph g) where
  pub growing_none : (small big : ℕ) (found partner : List ℕ) (start taken near : ℕ) → length found ≡ 64 → length partner ≡ 64 → start < 64 →
      get_or found 0 0 ≡ start → ((i : ℕ) → 0 < i → get_or found i 0 ≡ 0) → ((i : ℕ) → get_or partner i 0 ≡ 0) → IsLowest (has small) start →
      ((u : ℕ) → has taken u ≡ (u == start)) → ((u : ℕ) → has near u ≡ g.both start u) → Growing g small big found partner 1 taken near
  growing_none small big found partner start taken near sized sized' below here blank blank' low taken_is near_is = record {
    sized = sized;
    sized_partner = sized';
    some = omega arith;
    counted = sym (length-members-more (λ _. false) (taken_by found 1) start 64 below refl (λ u. one_taken u)
        ∙ ap (λ k. k + 1) (length-members-none (λ _. false) 64 (λ _. refl)));
    taken_is = λ u. taken_is u ∙ sym (one_taken u);
    near_is = λ u. (
      λ i. record { other = start; is_found = taken_is start ∙ eq-eqb start start refl; edge = valid.symmetric start u (sym (near_is u) ∙ i) },
      λ j. near_is u ∙ valid.symmetric u start (subst (λ w. g.both u w ≡ true) (eqb-true j.other start (sym (taken_is j.other) ∙ j.is_found)) j.edge),
    );
    first = subst (IsLowest (has small)) (sym here) low;
    next = λ i p l. absurd (omega arith);
    partners = λ i p l. absurd (omega arith);
    blank = λ i l. blank i (omega arith);
    blank_partner = λ i l. blank' i;
    start = blank' 0;
  }
    where
      one_taken : (u : ℕ) → taken_by found 1 u ≡ (u == start)
      one_taken u = ap (λ k. u == k) here

  module _ (small big : ℕ) (found partner : List ℕ) (count taken near : ℕ) (s : Growing g small big found partner count taken near) where
    started : IsTrue (has taken (get_or found 0 0))
    started = s.taken_is (get_or found 0 0) ∙ taken_own found count 0 s.some

    -- a wanted vertex is joined to a found one
    pub wanted_some : (wanted meet : ℕ) → IsInside small big → IsJoinedSet g small → IsJoinedSet g big → IsWanted small big taken wanted
        → ((u : ℕ) → has meet u ≡ (has wanted u && has near u)) →
        ((u : ℕ) × IsTrue (has big u) × (has taken u ≡ false)) → 0 < meet
    wanted_some wanted meet sub join_small join_big w is left = elim w [
      | inl o ↦ put (edge_of g (has small) taken (get_or found 0 0) o.0 started (join_small o.0 (get_or found 0 0) o.1 s.first.member) o.2)
          (λ u i n. o.3 u ∙ and_from _ _ i (ap not n))
      | inr o ↦ put (edge_of g (has big) taken (get_or found 0 0) left.0 started
          (join_big left.0 (get_or found 0 0) left.1 (sub (get_or found 0 0) s.first.member)) left.2) (λ u i n. o.1 u ∙ and_from _ _ i (ap not n))
    ]
      where
        put : {a : ℕ → Bool} → Edge g a taken → ((u : ℕ) → IsTrue (a u) → has taken u ≡ false → IsTrue (has wanted u)) → 0 < meet
        put e h = positive_from_has meet e.entry (is e.entry ∙ and_from _ _ (h e.entry e.member e.new) ((s.near_is e.entry).1 e.joined))

    next_of : (a : ℕ → Bool) (wanted meet v : ℕ) → ((u : ℕ) → has wanted u ≡ (a u && not (has taken u)))
        → ((u : ℕ) → has meet u ≡ (has wanted u && has near u)) →
        IsTrue (has meet v) → ((u : ℕ) → IsTrue (has meet u) → v ≤ u) → IsNextOf g a (has taken) v
    next_of a wanted meet v w is i low =
        let p = and_parts _ _ (sym (is v) ∙ i) in
        let q = and_parts _ _ (sym (w v) ∙ p.0) in record {
          member = q.0;
          new = not_true _ q.1;
          joined = (s.near_is v).0 p.1;
          least = λ u j n e. low u (is u ∙ and_from _ _ (w u ∙ and_from _ _ j (ap not n)) ((s.near_is u).1 e));
        }

    -- the lowest of them is the next link
    pub next_link : (wanted meet v : ℕ) → IsWanted small big taken wanted → ((u : ℕ) → has meet u ≡ (has wanted u && has near u)) →
        IsTrue (has meet v) → ((u : ℕ) → IsTrue (has meet u) → v ≤ u) → IsNextLink g (has small) (has big) (has taken) v
    next_link wanted meet v w is i low = elim w [
      | inl o ↦ inl (next_of (has small) wanted meet v o.3 is i low)
      | inr o ↦ inr (o.0, next_of (has big) wanted meet v o.1 is i low)
    ]

    pub link_new : (v : ℕ) → IsNextLink g (has small) (has big) (has taken) v → (has taken v ≡ false) × IsJoinedTo g (has taken) v
    link_new v n = elim n [ inl a ↦ (a.new, a.joined) | inr b ↦ (b.1.new, b.1.joined) ]

    pub growing_room : (v : ℕ) → v < 64 → has taken v ≡ false → count < 64
    growing_room v below new = let l = length-members-lt (taken_by found count) 64 v below (sym (s.taken_is v) ∙ new) in let e = s.counted in omega arith

    IsNextOf-same : (a t t' : ℕ → Bool) (v : ℕ) → ((u : ℕ) → t' u ≡ t u) → IsNextOf g a t v → IsNextOf g a t' v
    IsNextOf-same a t t' v e n = record {
      member = n.member;
      new = e v ∙ n.new;
      joined = record { other = n.joined.other; is_found = e n.joined.other ∙ n.joined.is_found; edge = n.joined.edge };
      least = λ u i o j. n.least u i (sym (e u) ∙ o) (record { other = j.other; is_found = sym (e j.other) ∙ j.is_found; edge = j.edge });
    }

    IsNextLink-same : (t t' : ℕ → Bool) (v : ℕ) → ((u : ℕ) → t' u ≡ t u) → IsNextLink g (has small) (has big) t v → IsNextLink g (has small) (has big) t' v
    IsNextLink-same t t' v e n = elim n [
      | inl a ↦ inl (IsNextOf-same (has small) t t' v e a)
      | inr b ↦ inr (λ u i. e u ∙ b.0 u i, IsNextOf-same (has big) t t' v e b.1)
    ]

    IsEarliest-set : (i v p x : ℕ) → i ≤ count → IsEarliest g found i v p → IsEarliest g (set found count x) i v p
    IsEarliest-set i v p x h e = record {
      place = e.place;
      earlier = e.earlier;
      is = get_or-set_other found count e.place x 0 (let l = e.earlier in omega arith) ∙ e.is;
      joined = e.joined;
      earliest = λ j l. subst (λ w. g.both v w ≡ false) (sym (get_or-set_other found count j x 0 (let k = e.earlier in omega arith))) (e.earliest j l);
    }

    module _ (v p taken' near' : ℕ) (below : v < 64) (link : IsNextLink g (has small) (has big) (has taken) v) (earliest : IsEarliest g found count v p)
        (taken_is : (u : ℕ) → has taken' u ≡ (has taken u || (u == v))) (near_is : (u : ℕ) → has near' u ≡ (has near u || g.both v u)) where
      room : count < 64
      room = growing_room v below (link_new v link).0

      here : get_or (set found count v) count 0 ≡ v
      here = get_or-set_same found count v 0 (let e = s.sized in let r = room in omega arith)

      here_partner : get_or (set partner count p) count 0 ≡ p
      here_partner = get_or-set_same partner count p 0 (let e = s.sized_partner in let r = room in omega arith)

      now : (u : ℕ) → taken_by (set found count v) (count + 1) u ≡ (taken_by found count u || (u == v))
      now u = taken_by-more found count v u (let e = s.sized in let r = room in omega arith)

      pub growing_more : Growing g small big (set found count v) (set partner count p) (count + 1) taken' near'
      growing_more = record {
        sized = simp length-set s.sized;
        sized_partner = simp length-set s.sized_partner;
        some = omega arith;
        counted = (let e = s.counted in let m = length-members-more (taken_by found count) (taken_by (set found count v) (count + 1)) v 64 below
            (sym (s.taken_is v) ∙ (link_new v link).0) now in omega arith);
        taken_is = λ u. taken_is u ∙ (ap (λ t. t || (u == v)) (s.taken_is u) ∙ sym (now u));
        near_is = λ u. (
          λ i. elim (or_cases _ _ (sym (near_is u) ∙ i)) [
            | inl o ↦ let j = (s.near_is u).0 o in record { other = j.other; is_found = taken_is j.other ∙ or_left _ _ j.is_found; edge = j.edge }
            | inr b ↦ record { other = v; is_found = taken_is v ∙ or_right _ _ (eq-eqb v v refl); edge = valid.symmetric v u b }
          ],
          λ j. near_is u ∙ elim (or_cases _ _ (sym (taken_is j.other) ∙ j.is_found)) [
            | inl o ↦ or_left _ _ ((s.near_is u).1 (record { other = j.other; is_found = o; edge = j.edge }))
            | inr e ↦ or_right _ _ (valid.symmetric u v (subst (λ w. g.both u w ≡ true) (eqb-true j.other v e) j.edge))
          ],
        );
        first = subst (IsLowest (has small)) (sym (get_or-set_other found count 0 v 0 (let k = s.some in omega arith))) s.first;
        next = λ i o l. elim (cases_eq i count) [
          | inl e ↦ subst (λ k. IsNextLink g (has small) (has big) (taken_by (set found count v) k) (get_or (set found count v) k 0)) (sym e)
              (subst (IsNextLink g (has small) (has big) (taken_by (set found count v) count)) (sym here)
              (IsNextLink-same (has taken) (taken_by (set found count v) count) v (λ u. taken_by-set found count v count u (omega arith) ∙ sym (s.taken_is u))
              link))
          | inr d ↦ subst (IsNextLink g (has small) (has big) (taken_by (set found count v) i)) (sym (get_or-set_other found count i v 0 d))
              (IsNextLink-same (taken_by found i) (taken_by (set found count v) i) (get_or found i 0) (λ u. taken_by-set found count v i u (omega arith))
              (s.next i o (omega arith)))
        ];
        partners = λ i o l. elim (cases_eq i count) [
          | inl e ↦ subst (λ k. IsEarliest g (set found count v) k (get_or (set found count v) k 0) (get_or (set partner count p) k 0)) (sym e)
              (rw (here, here_partner) (IsEarliest-set count v p v (omega arith) earliest))
          | inr d ↦ rw (get_or-set_other found count i v 0 d, get_or-set_other partner count i p 0 d)
              (IsEarliest-set i (get_or found i 0) (get_or partner i 0) v (omega arith) (s.partners i o (omega arith)))
        ];
        blank = λ i l. get_or-set_other found count i v 0 (omega arith) ∙ s.blank i (omega arith);
        blank_partner = λ i l. get_or-set_other partner count i p 0 (omega arith) ∙ s.blank_partner i (omega arith);
        start = get_or-set_other partner count 0 p 0 (let k = s.some in omega arith) ∙ s.start;
      }

      pub growing_smaller : taken' < 2 ^ 64 → 2 ^ 64 - taken' < 2 ^ 64 - taken
      growing_smaller fits =
          let l = lt_from_subset taken taken' v (λ u i. taken_is u ∙ or_left _ _ i) (link_new v link).0 (taken_is v ∙ or_right _ _ (eq-eqb v v refl)) in
          omega arith

    pub links_from : ((u : ℕ) → IsTrue (has big u) → IsTrue (has taken u)) → AreLinks g (has small) (has big) found partner count
    links_from all = record {
      some = s.some;
      first = s.first;
      next = s.next;
      partners = s.partners;
      all = λ v i. sym (s.taken_is v) ∙ all v i;
    }
