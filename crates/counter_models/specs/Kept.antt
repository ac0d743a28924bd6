-- The vertices that carry the roots' bits to y.
use Rattle.std.specs.Prelude.{◌≡◌, ℕ, ◌<◌, ◌⊎◌, Bool, false, not, ◌&&◌, nat_lt, List, IsTrue, slice_index}
use Rattle.mixed_graph.specs.Vocabulary.{has, MixedGraph, induced}
use Rattle.hedge.specs.Vocabulary.{IsNearestChild}

-- the vertices outside x
abbrev pub free : MixedGraph → ℕ → ℕ → Bool
free g x v = nat_lt v g.vertices && not (has x v)

-- c is the child to which u carries: the nearest one to y outside x
abbrev pub CarriesTo : MixedGraph → (x y u c : ℕ) → Type 0
CarriesTo g x y u c = IsNearestChild (induced g (free g x)) (has y) u c

-- v is a root, or a kept vertex outside y carries to it
pub data IsCarrier (g : MixedGraph) (x y roots : ℕ) : ℕ → Type 0 where
  root : {v : ℕ} → IsTrue (has roots v) → IsCarrier g x y roots v
  next : {u v : ℕ} → IsCarrier g x y roots u → has y u ≡ false → CarriesTo g x y u v → IsCarrier g x y roots v

-- the mask holds the kept vertices, and the list has for each of them outside y the child to which it carries, and 64 for all others
pub record AreCarriers (g : MixedGraph) (x y roots kept : ℕ) (carry : List ℕ) : Type 0 where
  pub sound : (v : ℕ) → IsTrue (has kept v) → IsCarrier g x y roots v
  pub complete : (v : ℕ) → IsCarrier g x y roots v → IsTrue (has kept v)
  pub carries : (v : ℕ) → IsTrue (has kept v) → has y v ≡ false → CarriesTo g x y v (slice_index carry v)
  pub others : (v : ℕ) → v < 64 → (has kept v ≡ false) ⊎ IsTrue (has y v) → slice_index carry v ≡ 64

-- v is a member of `start`, or what a reached vertex chose
pub data IsChosenFrom (next : List ℕ) (start : ℕ) : ℕ → Type 0 where
  at : {v : ℕ} → IsTrue (has start v) → IsChosenFrom next start v
  by : {u v : ℕ} → IsChosenFrom next start u → slice_index next u ≡ v → v < 64 → IsChosenFrom next start v
