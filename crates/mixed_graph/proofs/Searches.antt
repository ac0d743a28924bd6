use Rattle.std.proofs.Common.{◌≡◌, ℕ, ◌+◌, ◌-◌, ◌*◌, ◌^◌, ◌<◌, ◌≤◌, Bool, true, false, not, ◌&&◌, ◌||◌, ◌==◌, inl, inr, refl, ap, ◌∙◌, IsTrue, arith}
use Rattle.std.proofs.lemmas.Bool.{cases_Bool, cases_eq, cases_order, eq-eqb, ne_eqb}
use Rattle.mixed_graph.specs.Bits.{has}
use Rattle.mixed_graph.specs.Graphs.{MixedGraph, IsAncestor}
use Rattle.mixed_graph.proofs.Masks.{le_from_subset, lt_from_subset}
use Rattle.mixed_graph.proofs.Paths.{ancestor_member, ancestor_parent}

-- the sets of a search for ancestors: what is found, and what of it is still to be looked at
pub record Searching (g : MixedGraph) (start found front : ℕ) : Type 0 where
  pub started : (v : ℕ) → IsTrue (has start v) → IsTrue (has found v)
  pub sound : (v : ℕ) → IsTrue (has found v) → IsAncestor g (has start) v
  pub queued : (v : ℕ) → IsTrue (has front v) → IsTrue (has found v)
  pub closed : (u v : ℕ) → IsTrue (has found v) → has front v ≡ false → IsTrue (g.arrow u v) → IsTrue (has found u)

-- one vertex v is taken from the front, and its parents that are new come into both
pub record Step (g : MixedGraph) (v found front rest fresh found' front' : ℕ) : Type 0 where
  pub taken : IsTrue (has front v)
  pub rest_is : (u : ℕ) → has rest u ≡ (has front u && not (u == v))
  pub fresh_is : (u : ℕ) → has fresh u ≡ (g.arrow u v && not (has found u))
  pub found_is : (u : ℕ) → has found' u ≡ (has found u || has fresh u)
  pub front_is : (u : ℕ) → has front' u ≡ (has rest u || has fresh u)

or_l : (x y : Bool) → x ≡ true → (x || y) ≡ true
or_l x y e = rw e refl

-- a search begins with the start as what is found and as what is still to be looked at
pub searching_none : (g : MixedGraph) (start : ℕ) → ((v : ℕ) → IsTrue (has start v) → v < g.vertices) → Searching g start start start
searching_none g start within = record {
  started = λ v h. h;
  sound = λ v h. ancestor_member g (has start) v (within v h) h;
  queued = λ v h. h;
  closed = λ u v h f e. absurd (let x : has start v ≡ true = h in cc);
}

module _ (g : MixedGraph) (below : (u v : ℕ) → IsTrue (g.arrow u v) → u < g.vertices) (start v found front rest fresh found' front' : ℕ)
    (step : Step g v found front rest fresh found' front') where
  -- a step of the search keeps what is true of its sets
  pub searching_more : Searching g start found front → Searching g start found' front'
  searching_more s = record {
    started = λ u h. step.found_is u ∙ or_l _ _ (s.started u h);
    sound = λ u h. elim (cases_Bool (has found u)) [
      | inl e ↦ s.sound u e
      | inr e ↦ elim (cases_Bool (g.arrow u v)) [
        | inl a ↦ ancestor_parent g (has start) u v (below u v a) a (s.sound v (s.queued v step.taken))
        | inr a ↦ absurd (let p = step.found_is u in let q = step.fresh_is u in grind arith)
      ]
    ];
    queued = λ u h. let p = step.found_is u in let q = step.front_is u in let r = step.rest_is u in let k = s.queued u in grind arith;
    closed = λ u w h f a. let p = step.found_is w in let q = step.front_is w in let r = step.rest_is w in
        let k = s.closed u w in let p' = step.found_is u in let q' = step.fresh_is u in
        elim (cases_eq w v) [
          | inl e ↦ let a' : g.arrow u v ≡ true = rw e at a in grind arith
          | inr d ↦ let d' : (w == v) ≡ false = ne_eqb w v d in
              grind arith
        ];
  }

  -- the number that falls: the room above found, and then the front
  pub searching_smaller : found < 2 ^ 64 → found' < 2 ^ 64 → front < 2 ^ 64 → front' < 2 ^ 64 →
      (2 ^ 64 - found') * 2 ^ 64 + front' < (2 ^ 64 - found) * 2 ^ 64 + front
  searching_smaller a b c d = elim (cases_order found found') [
    | inl same ↦
        let none : (u : ℕ) → has fresh u ≡ false = λ u.
        (let p = step.found_is u in let q = step.fresh_is u in let e : has found u ≡ has found' u = ap (λ m. has m u) same in
        elim (cases_Bool (has found u)) [ inl t ↦ grind arith | inr t ↦ grind arith ]) in
        let falls : front' < front = lt_from_subset front' front v
        (λ u h. let p = step.front_is u in let q = step.rest_is u in let r = none u in grind arith)
        (let p = step.front_is v in let q = step.rest_is v in let r = none v in let t : (v == v) ≡ true = eq-eqb v v refl in grind arith)
        step.taken in
        omega (arith, same, falls)
    | inr (inl lt) ↦ omega (arith, lt, c, d)
    | inr (inr gt) ↦ absurd (let sub : found ≤ found' = le_from_subset found found' (λ u h. step.found_is u ∙ or_l _ _ h) in omega (arith, sub, gt))
  ]
