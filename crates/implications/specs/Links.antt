-- Links, along which separation inside the ancestors of a pair is a search that meets each vertex once. Words for code inside this crate.
use Rattle.std.specs.Prelude.{ℕ, Bool, ◌==◌, ◌&&◌, ◌||◌, ◌↔◌, not, IsTrue}
use Rattle.mixed_graph.specs.Vocabulary.{has, MixedGraph, IsAncestor}
use Rattle.mixed_graph.specs.Reached.{Reached}
use Rattle.implications.specs.Separable.{only, IsSeparatingSet}
use Rattle.implications.specs.declared.sets.Pair.{Pair}
use Rattle.implications.specs.declared.sets.Cut.{Cut}

-- an edge joins u and v, and no arrow of it starts in w
abbrev pub is_link : MixedGraph → (ℕ → Bool) → ℕ → ℕ → Bool
is_link g w u v = g.both u v || ((g.arrow u v && not (w u)) || (g.arrow v u && not (w v)))

-- the side of a has what links reach from a inside s
abbrev pub IsSide : MixedGraph → (s w : ℕ → Bool) → ℕ → (ℕ → Bool) → Type 0
IsSide g s w a side = (v : ℕ) → IsTrue (side v) ↔ Reached (is_link g w) (only a) s v

-- v or a child of it is on the side
abbrev pub IsNextTo : MixedGraph → (ℕ → Bool) → ℕ → Type 0
IsNextTo g side v = (c : ℕ) × IsTrue (side c) × IsTrue (g.arrow v c || (c == v))

-- `above` are the ancestors of the two vertices
abbrev pub AreAbove : MixedGraph → (a b : ℕ) → (ℕ → Bool) → Type 0
AreAbove g a b above = (v : ℕ) → IsTrue (above v) ↔ IsAncestor g (λ u. only a u || only b u) v

-- the set that is kept separates the pair, and the sides are those of its vertices
pub record IsCut (g : MixedGraph) (p : Pair) (c : Cut) : Type 0 where
  pub inside : (v : ℕ) → IsTrue (has c.kept.bits v) → IsTrue (has p.above.bits v)
  pub separating : IsSeparatingSet g p.a p.b (has c.kept.bits)
  pub first : IsSide g (has p.above.bits) (has c.kept.bits) p.a (has c.first.bits)
  pub second : IsSide g (has p.above.bits) (has c.kept.bits) p.b (has c.second.bits)
