-- The undirected graph whose separators are the separating sets of a graph (as moralization, Lauritzen and others, with bidirected edges). Words for
-- code inside this crate.
use Rattle.std.specs.Prelude.{ℕ, Bool, IsTrue}
use Rattle.mixed_graph.specs.Vocabulary.{MixedGraph}

-- a walk inside a leads from u to v, all of whose inner vertices are colliders and which has an arrowhead at v
pub data Heads (g : MixedGraph) (a : ℕ → Bool) (u : ℕ) : ℕ → Type 0 where
  by_arrow : {v : ℕ} → IsTrue (g.arrow u v) → IsTrue (a v) → Heads g a u v
  by_both : {v : ℕ} → IsTrue (g.both u v) → IsTrue (a v) → Heads g a u v
  on : {v w : ℕ} → Heads g a u v → IsTrue (g.both v w) → IsTrue (a w) → Heads g a u w

-- a walk inside a leads from u to v, all of whose inner vertices are colliders
pub data Meets (g : MixedGraph) (a : ℕ → Bool) (u v : ℕ) : Type 0 where
  heads : IsTrue (a u) → Heads g a u v → Meets g a u v
  parent : IsTrue (a u) → IsTrue (a v) → IsTrue (g.arrow v u) → Meets g a u v
  beyond : {c : ℕ} → IsTrue (a u) → IsTrue (a v) → Heads g a u c → IsTrue (g.arrow v c) → Meets g a u v

-- the two are joined exactly where such a walk leads from one to the other
pub record IsNear (g : MixedGraph) (a : ℕ → Bool) (near : ℕ → ℕ → Bool) : Type 0 where
  pub sound : (u v : ℕ) → IsTrue (near u v) → Meets g a u v
  pub complete : (u v : ℕ) → Meets g a u v → IsTrue (near u v)
