-- Pairs of vertices that some set separates (Pearl, Causality, chapter 1; Verma and Pearl, 1990).
use Rattle.std.specs.Prelude.{ℕ, ◌≡◌, ◌≢◌, ◌<◌, Bool, false, ◌==◌, ◌&&◌, ◌||◌, ◌↔◌, nat_lt, IsTrue}
use Rattle.mixed_graph.specs.Vocabulary.{MixedGraph, IsAncestor, Within}
use Rattle.m_separation.specs.Vocabulary.{HasOpenWalk, IsSeparated}
use Rattle.do_rules.specs.Vocabulary.{AreIndependent}

-- the vertex a alone
abbrev pub only : ℕ → ℕ → Bool
only a v = v == a

-- w is a set of other vertices, and separates a and b
pub record IsSeparatingSet (g : MixedGraph) (a b : ℕ) (w : ℕ → Bool) : Type 0 where
  pub within : Within g.vertices w
  pub without_a : w a ≡ false
  pub without_b : w b ≡ false
  pub separates : IsSeparated g (only a) (only b) w

-- some set separates the vertices a < b
pub record IsSeparable (g : MixedGraph) (a b : ℕ) : Type 0 where
  pub order : a < b
  pub vertex : b < g.vertices
  pub set : ℕ → Bool
  pub separating : IsSeparatingSet g a b set

-- the vertices a < b are independent given some set of other vertices, in each model that fits
pub record AreIndependentGivenSome (g : MixedGraph) (a b : ℕ) : Type 0 where
  pub order : a < b
  pub vertex : b < g.vertices
  pub set : ℕ → Bool
  pub within : Within g.vertices set
  pub without_a : set a ≡ false
  pub without_b : set b ≡ false
  pub independent : AreIndependent g (only a) (only b) set

-- v is an ancestor of a or of b, and neither of them
pub record IsOtherAncestor (g : MixedGraph) (a b v : ℕ) : Type 0 where
  pub not_a : v ≢ a
  pub not_b : v ≢ b
  pub above : IsAncestor g (λ u. only a u || only b u) v

-- z is the set of these
abbrev pub AreOtherAncestors : MixedGraph → (a b : ℕ) → (ℕ → Bool) → Type 0
AreOtherAncestors g a b z = (v : ℕ) → IsTrue (z v) ↔ IsOtherAncestor g a b v

-- the rest when a walk down the members of `all` has come to v: what it kept above v, and all members below v
abbrev pub rest_at : (all kept : ℕ → Bool) → ℕ → ℕ → Bool
rest_at all kept v u = (nat_lt v u && kept u) || (nat_lt u v && all u)

-- kept are the members of `all` that a walk from the highest down keeps, if it drops each with which the rest still separates a and b
pub record IsThinned (g : MixedGraph) (a b : ℕ) (all kept : ℕ → Bool) : Type 0 where
  pub inside : (v : ℕ) → IsTrue (kept v) → IsTrue (all v)
  pub dropped : (v : ℕ) → IsTrue (all v) → kept v ≡ false → IsSeparated g (only a) (only b) (rest_at all kept v)
  pub needed : (v : ℕ) → IsTrue (kept v) → HasOpenWalk g (only a) (only b) (rest_at all kept v)

-- w is the set that is given for a and b: their other ancestors, thinned; it separates them
pub record IsGivenSet (g : MixedGraph) (a b : ℕ) (w : ℕ → Bool) : Type 0 where
  pub others : ℕ → Bool
  pub ancestors : AreOtherAncestors g a b others
  pub thinned : IsThinned g a b others w
  pub separating : IsSeparatingSet g a b w
