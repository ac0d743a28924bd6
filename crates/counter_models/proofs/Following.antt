-- What a choice leads to, as a search.
use Rattle.std.proofs.Common.{ℕ, ◌≡◌, ◌<◌, true, false, ◌&&◌, ◌==◌, nat_lt, List, [], ◌∷◌, slice_index, IsTrue, arith}
use Rattle.std.proofs.lemmas.Bool.{and_parts}
use Rattle.mixed_graph.specs.Vocabulary.{has, MixedGraph, IsDirectedPath}
use Rattle.mixed_graph.proofs.Searches.{Searching}
use Rattle.counter_models.specs.Kept.{IsChosenFrom}
use Rattle.counter_models.specs.Kept.IsChosenFrom.{at, by}

-- u -> v where v chose u
abbrev pub choosing : List ℕ → MixedGraph
choosing next = record { vertices = 64; arrow = λ u v. (u == slice_index next v) && nat_lt (slice_index next v) 64; both = λ u v. false }

pub reached_from : (next : List ℕ) (start v : ℕ) (path : List ℕ) (end : ℕ) → IsDirectedPath (choosing next) v path end → IsTrue (has start end)
    → IsChosenFrom next start v
reached_from next start v [] end e i = at (rw e i)
reached_from next start v (x ∷ xs) end p i = let a = and_parts (v == slice_index next x) (nat_lt (slice_index next x) 64) p.0 in
    by (reached_from next start x xs end p.1 i) (same v (slice_index next x) a.0) (low v (slice_index next x) a.0 a.1)
  where
    same : (v w : ℕ) → (v == w) ≡ true → w ≡ v
    same v w e = grind (arith, e)

    low : (v w : ℕ) → (v == w) ≡ true → nat_lt w 64 ≡ true → v < 64
    low v w e l = grind (arith, e, l)

pub held_by_reached : (next : List ℕ) (start found front : ℕ) → ((w : ℕ) → has front w ≡ false) → Searching (choosing next) start found front → (v : ℕ)
    → IsChosenFrom next start v → IsTrue (has found v)
held_by_reached next start found front empty s v (at i) = s.started v i
held_by_reached next start found front empty s v (by {u} r e lt) = s.closed v u (held_by_reached next start found front empty s u r) (empty u)
    (arrow v (slice_index next u) e lt)
  where
    arrow : (v w : ℕ) → w ≡ v → v < 64 → ((v == w) && nat_lt w 64) ≡ true
    arrow v w e lt = grind (arith, e, lt)

pub choosing_low : (next : List ℕ) (u v : ℕ) → IsTrue ((choosing next).arrow u v) → u < 64
choosing_low next u v a = let p = and_parts (u == slice_index next v) (nat_lt (slice_index next v) 64) a in low u (slice_index next v) p.0 p.1
  where
    low : (v w : ℕ) → (v == w) ≡ true → nat_lt w 64 ≡ true → v < 64
    low v w e l = grind (arith, e, l)
