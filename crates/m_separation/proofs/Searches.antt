use Rattle.std.proofs.Common.{◌≡◌, ℕ, ◌+◌, ◌-◌, ◌*◌, ◌^◌, ◌<◌, ◌≤◌, Bool, true, false, not, ◌&&◌, ◌||◌, ◌↔◌, List, [], ◌∷◌, inl, inr, refl, sym, ap}
use Rattle.std.proofs.Common.{◌∙◌, IsTrue, arith, subst}
use Rattle.std.proofs.lemmas.Bool.{cases_Bool, cases_order, eq-eqb, eqb-true, or_cases, or_left, or_right, and_parts, and_from, not-true, not_from_false}
use Rattle.mixed_graph.specs.Vocabulary.{has, MixedGraph, IsMixedGraph}
use Rattle.mixed_graph.proofs.Masks.{le_from_subset, zero_from_empty, has-zero}
use Rattle.m_separation.specs.Walks.{Step, IsWalk, last, heads_second, ArePassedFrom, IsReached}
use Rattle.m_separation.specs.States.{GoesOn, IsLed}
use Rattle.m_separation.proofs.Going.{passed_from_start, passed_inside, goes_first, joined_below}

-- an open walk from x given w comes to the state: to a member of x outside w, or by one more edge
pub data Comes (g : MixedGraph) (x w : ℕ → Bool) : ℕ → Bool → Type 0 where
  begun : (v : ℕ) → v < g.vertices → IsTrue (x v) → w v ≡ false → Comes g x w v false
  gone : (v : ℕ) (h : Bool) (u : ℕ) (k : Bool) → Comes g x w v h → GoesOn g w v h u k → Comes g x w u k

-- what a walk that goes on by r from a state that is come to is as a whole
pub record Whole (g : MixedGraph) (x w : ℕ → Bool) (end : ℕ) : Type 0 where
  pub first : ℕ
  pub steps : List Step
  pub vertex : first < g.vertices
  pub begins : IsTrue (x first)
  pub outside : w first ≡ false
  pub walk : IsWalk g first steps
  pub passed : ArePassedFrom g w false first steps
  pub ends : last first steps ≡ end

pub whole : (g : MixedGraph) (x w : ℕ → Bool) (v : ℕ) (h : Bool) → Comes g x w v h → (r : List Step) → IsWalk g v r → ArePassedFrom g w h v r
    → Whole g x w (last v r)
whole g x w _ _ (begun v below i o) r walk passed = record {
  first = v;
  steps = r;
  vertex = below;
  begins = i;
  outside = o;
  walk = walk;
  passed = passed;
  ends = refl;
}
whole g x w _ _ (gone v h u k c go) r walk passed = whole g x w v h c (record { mark = go.mark; to = u } ∷ r) (go.joined, walk)
    (go.passed, subst (λ b. ArePassedFrom g w b u r) (sym go.arrives) passed)

pub reached_from_comes : (g : MixedGraph) (x w : ℕ → Bool) (v : ℕ) (h : Bool) → Comes g x w v h → w v ≡ false → IsReached g x w v
reached_from_comes g x w v h c out = let p = whole g x w v h c [] tt tt in (
  p.first,
  p.steps,
  record {
    vertex = p.vertex;
    begins = p.begins;
    ends = eq-eqb _ v p.ends;
    first_outside = p.outside;
    last_outside = rw p.ends out;
    walk = p.walk;
    passed = passed_inside g w false p.first p.steps p.passed;
  },
)

pub comes_below : (g : MixedGraph) → IsMixedGraph g → (x w : ℕ → Bool) (v : ℕ) (h : Bool) → Comes g x w v h → v < g.vertices
comes_below g valid x w _ _ (begun v below i o) = below
comes_below g valid x w _ _ (gone v h u k c go) = joined_below g valid v go.mark u go.joined

-- a set of states that holds what each of them leads to holds one at the end of each open walk on from it
pub held_to_end : (g : MixedGraph) (w : ℕ → Bool) (held : Bool → ℕ → Bool) →
    ((h : Bool) (v : ℕ) (k : Bool) (u : ℕ) → IsTrue (held h v) → GoesOn g w v h u k → IsTrue (held k u)) →
    (h : Bool) (v : ℕ) (r : List Step) → IsTrue (held h v) → IsWalk g v r → ArePassedFrom g w h v r → (k : Bool) × IsTrue (held k (last v r))
held_to_end g w held closed h v [] i walk passed = (h, i)
held_to_end g w held closed h v (s ∷ r) i walk passed =
    held_to_end g w held closed (heads_second s.mark) s.to r (closed h v (heads_second s.mark) s.to i (goes_first g w h v s r walk passed)) walk.1 passed.1

-- the sets of a search: the states found, and the front, those that were new in the last round
pub record Searching (g : MixedGraph) (x w : ℕ → Bool) (found front : Bool → ℕ) : Type 0 where
  pub started : (v : ℕ) → IsTrue (x v) → w v ≡ false → IsTrue (has (found false) v)
  pub sound : (h : Bool) (v : ℕ) → IsTrue (has (found h) v) → Comes g x w v h
  pub queued : (h : Bool) (v : ℕ) → IsTrue (has (front h) v) → IsTrue (has (found h) v)
  pub closed : (h : Bool) (v : ℕ) (k : Bool) (u : ℕ) → IsTrue (has (found h) v) → has (front h) v ≡ false → GoesOn g w v h u k → IsTrue (has (found k) u)

-- the search begins with the members of x outside w
pub searching_none : (g : MixedGraph) (x w : ℕ → Bool) (start : Bool → ℕ) → ((v : ℕ) → IsTrue (x v) → v < g.vertices) →
    ((v : ℕ) → has (start false) v ≡ (x v && not (w v))) → ((v : ℕ) → has (start true) v ≡ false) → Searching g x w start start
searching_none g x w start within tails heads = record {
  started = λ v i o. tails v ∙ and_from _ _ i (not_from_false (w v) o);
  sound = sound;
  queued = λ h v i. i;
  closed = λ h v k u i f go. absurd (let t : has (start h) v ≡ true = i in cc);
}
  where
    sound : (h : Bool) (v : ℕ) → IsTrue (has (start h) v) → Comes g x w v h
    sound true v i = absurd (let f = heads v in cc)
    sound false v i = let p = and_parts (x v) (not (w v)) (sym (tails v) ∙ i) in begun v (within v p.0) p.0 (not-true (w v) p.1)

-- one round: the new ones among what the front leads to are the next front
module _ (g : MixedGraph) (x w : ℕ → Bool) (found front led found' front' : Bool → ℕ)
    (led_is : (k : Bool) (u : ℕ) → IsTrue (has (led k) u) ↔ IsLed g w front u k)
    (front_is : (k : Bool) (u : ℕ) → has (front' k) u ≡ (has (led k) u && not (has (found k) u)))
    (found_is : (k : Bool) (u : ℕ) → has (found' k) u ≡ (has (found k) u || has (front' k) u)) where
  pub searching_more : Searching g x w found front → Searching g x w found' front'
  searching_more s = record {
    started = λ v i o. found_is false v ∙ or_left _ _ (s.started v i o);
    sound = λ k u i. elim (or_cases (has (found k) u) (has (front' k) u) (sym (found_is k u) ∙ i)) [
      | inl old ↦ s.sound k u old
      | inr new ↦ let l = (led_is k u).0 (and_parts (has (led k) u) _ (sym (front_is k u) ∙ new)).0 in
          gone l.vertex l.head u k (s.sound l.head l.vertex (s.queued l.head l.vertex l.member)) l.goes
    ];
    queued = λ k u i. found_is k u ∙ or_right _ _ i;
    closed = λ h v k u i out go.
        let old : has (found h) v ≡ true = (let e = found_is h v in grind arith) in
        elim (cases_Bool (has (front h) v)) [
          | inl at_front ↦
              let l : has (led k) u ≡ true = (led_is k u).1 (record { head = h; vertex = v; member = at_front; goes = go }) in
              let e = front_is k u in let f = found_is k u in grind arith
          | inr not_front ↦ found_is k u ∙ or_left _ _ (s.closed h v k u old not_front go)
        ];
  }

  grows : (k : Bool) → found k ≤ found' k
  grows k = le_from_subset (found k) (found' k) (λ u i. found_is k u ∙ or_left _ _ i)

  -- without anything new the next front is empty
  none_new : (k : Bool) → found k ≡ found' k → front' k ≡ 0
  none_new k same = zero_from_empty (front' k) (λ u.
      let e = front_is k u in let f = found_is k u in let t : has (found k) u ≡ has (found' k) u = ap (λ m. has m u) same in
      elim (cases_Bool (has (found k) u)) [ inl a ↦ grind arith | inr a ↦ grind arith ])

  -- the number that falls: the room above what is found, and then the front
  pub searching_smaller : ((front true ≡ 0) × (front false ≡ 0) → ⊥) → ((k : Bool) → found' k < 2 ^ 64) → ((k : Bool) → front' k < 2 ^ 64) →
      ((2 ^ 64 - found' true) + (2 ^ 64 - found' false)) * 2 ^ 65 + (front' true + front' false) <
      ((2 ^ 64 - found true) + (2 ^ 64 - found false)) * 2 ^ 65 + (front true + front false)
  searching_smaller some a b = elim (cases_order (found true) (found' true)) [
    | inl same ↦ elim (cases_order (found false) (found' false)) [
      | inl same' ↦
          let t = none_new true same in let f = none_new false same' in
          let pos : 0 < front true + front false = elim (cases_order 0 (front true + front false)) [
            | inl z ↦ absurd (some (omega (arith, z), omega (arith, z)))
            | inr (inl lt) ↦ lt
            | inr (inr gt) ↦ absurd (omega arith)
          ] in
          omega (arith, same, same', t, f, pos)
      | inr (inl lt) ↦ omega (arith, same, lt, a true, a false, b true, b false)
      | inr (inr gt) ↦ absurd (omega (arith, grows false, gt))
    ]
    | inr (inl lt) ↦ omega (arith, grows false, lt, a true, a false, b true, b false)
    | inr (inr gt) ↦ absurd (omega (arith, grows true, gt))
  ]

-- a search that has ended holds the end of each open walk
pub end_found : (g : MixedGraph) (x w : ℕ → Bool) (found front : Bool → ℕ) → Searching g x w found front → ((h : Bool) → front h ≡ 0) →
    (v : ℕ) → IsReached g x w v → (k : Bool) × IsTrue (has (found k) v)
end_found g x w found front s done v reached =
    let o = reached.2 in
    let end = held_to_end g w (λ h u. has (found h) u) (λ h z k u i go. s.closed h z k u i (rw (done h) (has-zero z)) go)
    false reached.0 reached.1 (s.started reached.0 o.begins o.first_outside) o.walk (passed_from_start g w reached.0 reached.1 o.first_outside o.passed) in
    (end.0, subst (λ u. IsTrue (has (found end.0) u)) (eqb-true _ v o.ends) end.1)
