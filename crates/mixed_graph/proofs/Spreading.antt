use Rattle.std.proofs.Common.{◌≡◌, ℕ, ◌-◌, ◌^◌, ◌<◌, Bool, true, false, not, ◌&&◌, ◌||◌, ◌↔◌, List, [], ◌∷◌, inl, inr, sym, ap, ◌∙◌, IsTrue, arith}
use Rattle.std.proofs.lemmas.Bool.{or_cases, or_left, or_right, and_parts}
use Rattle.mixed_graph.specs.Bits.{has}
use Rattle.mixed_graph.specs.Graphs.{MixedGraph, IsDirectedPath, IsAncestor}
use Rattle.mixed_graph.specs.Reached.{Reached}
use Rattle.mixed_graph.proofs.Masks.{has-zero, lt_from_subset, some_member}
use Rattle.mixed_graph.proofs.Paths.{ancestor_member, ancestor_parent}

-- the sets of a search: what is found, and what is one step ahead of it
pub record Spreading (step : ℕ → ℕ → Bool) (from within : ℕ → Bool) (found front : ℕ) : Type 0 where
  pub started : (v : ℕ) → IsTrue (from v) → IsTrue (within v) → IsTrue (has found v || has front v)
  pub sound : (v : ℕ) → IsTrue (has found v) → Reached step from within v
  pub ahead : (v : ℕ) → IsTrue (has front v) → Reached step from within v
  pub fresh : (v : ℕ) → IsTrue (has front v) → has found v ≡ false
  pub closed : (u v : ℕ) → IsTrue (has found u) → IsTrue (step u v) → IsTrue (within v) → IsTrue (has found v || has front v)

-- the front comes to what is found, and what is one step from it and new is the next front
pub record Spread (step : ℕ → ℕ → Bool) (within : ℕ → Bool) (found front near found' front' : ℕ) : Type 0 where
  pub near_is : (u : ℕ) → IsTrue (has near u) ↔ ((v : ℕ) × IsTrue (has front v) × IsTrue (step v u))
  pub found_is : (u : ℕ) → has found' u ≡ (has found u || has front u)
  pub front_is : (u : ℕ) → has front' u ≡ ((has near u && within u) && not (has found' u))

pub spreading_none : (step : ℕ → ℕ → Bool) (from within : ℕ → Bool) (found front : ℕ) → ((v : ℕ) → has found v ≡ false) →
    ((v : ℕ) → has front v ≡ (from v && within v)) → Spreading step from within found front
spreading_none step from within found front none first = record {
  started = λ v i w. let n = none v in let f = first v in grind arith;
  sound = λ v i. absurd (let n = none v in cc);
  ahead = λ v i. let p = and_parts (from v) (within v) (sym (first v) ∙ i) in Reached.start p.0 p.1;
  fresh = λ v i. none v;
  closed = λ u v i s w. absurd (let n = none u in cc);
}

module _ (step : ℕ → ℕ → Bool) (from within : ℕ → Bool) (found front near found' front' : ℕ)
    (spread : Spread step within found front near found' front') where
  pub spreading_more : Spreading step from within found front → Spreading step from within found' front'
  spreading_more s = record {
    started = λ v i w. or_left _ _ (spread.found_is v ∙ s.started v i w);
    sound = λ v i. elim (or_cases (has found v) (has front v) (sym (spread.found_is v) ∙ i)) [ inl a ↦ s.sound v a | inr b ↦ s.ahead v b ];
    ahead = λ v i. (let p = and_parts _ _ (sym (spread.front_is v) ∙ i) in let q = and_parts _ _ p.0 in
        let k = (spread.near_is v).0 q.0 in Reached.next (s.ahead k.0 k.1) k.2 q.1);
    fresh = λ v i. let e = spread.front_is v in grind arith;
    closed = λ u v i st w. elim (or_cases (has found u) (has front u) (sym (spread.found_is u) ∙ i)) [
      | inl a ↦ or_left _ _ (spread.found_is v ∙ s.closed u v a st w)
      | inr b ↦ (let n : has near v ≡ true = (spread.near_is v).1 (u, b, st) in let e = spread.front_is v in let w' : within v ≡ true = w in grind arith)
    ];
  }

  -- the room above what is found falls
  pub spreading_smaller : Spreading step from within found front → (front ≡ 0 → ⊥) → front < 2 ^ 64 → found' < 2 ^ 64 → 2 ^ 64 - found' < 2 ^ 64 - found
  spreading_smaller s some small small' = (
      let m = some_member front some small in
      let grows : found < found' = lt_from_subset found found' m.0 (λ u i. spread.found_is u ∙ or_left _ _ i) (s.fresh m.0 m.1)
      (spread.found_is m.0 ∙ or_right (has found m.0) _ m.1) in
      omega (arith, grows, small'))

-- with nothing ahead, all that is reached is found
pub spread_all : (step : ℕ → ℕ → Bool) (from within : ℕ → Bool) (found front : ℕ) → Spreading step from within found front → front ≡ 0 →
    (v : ℕ) → Reached step from within v → IsTrue (has found v)
spread_all step from within found front s done v (Reached.start i w) = let a : (has found v || has front v) ≡ true = s.started v i w in
    let z : has front v ≡ false = ap (λ m. has m v) done ∙ has-zero v in grind arith
spread_all step from within found front s done v (Reached.next {u} r st w) =
    let a : (has found v || has front v) ≡ true = s.closed u v (spread_all step from within found front s done u r) st w in
    let z : has front v ≡ false = ap (λ m. has m v) done ∙ has-zero v in grind arith

-- what is reached against the arrows is an ancestor
pub ancestor_from_reached : (g : MixedGraph) (s within : ℕ → Bool) → ((v : ℕ) → IsTrue (within v) → v < g.vertices) →
    (v : ℕ) → Reached (λ u w. g.arrow w u) s within v → IsAncestor g s v
ancestor_from_reached g s within below v (Reached.start i w) = ancestor_member g s v (below v w) i
ancestor_from_reached g s within below v (Reached.next {u} r a w) = ancestor_parent g s v u (below v w) a (ancestor_from_reached g s within below u r)

reached_by_path : (g : MixedGraph) (s within : ℕ → Bool) → ((u v : ℕ) → IsTrue (g.arrow u v) → IsTrue (within u)) →
    (v : ℕ) (path : List ℕ) (u : ℕ) → IsDirectedPath g v path u → Reached (λ u w. g.arrow w u) s within u → Reached (λ u w. g.arrow w u) s within v
reached_by_path g s within tails v [] u p r = rw p r
reached_by_path g s within tails v (x ∷ xs) u p r = Reached.next (reached_by_path g s within tails x xs u p.1 r) p.0 (tails v x p.0)

pub reached_from_ancestor : (g : MixedGraph) (s within : ℕ → Bool) → ((u v : ℕ) → IsTrue (g.arrow u v) → IsTrue (within u))
    → ((v : ℕ) → IsTrue (s v) → IsTrue (within v)) →
    (v : ℕ) → IsAncestor g s v → Reached (λ u w. g.arrow w u) s within v
reached_from_ancestor g s within tails inside v a = reached_by_path g s within tails v a.path a.end a.leads (Reached.start a.inside (inside a.end a.inside))
