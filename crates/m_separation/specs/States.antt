-- Words for the search, inside this crate.
use Rattle.std.specs.Prelude.{◌≡◌, ℕ, ◌+◌, ◌<◌, Bool, true, false, not, ◌↔◌, List, IsTrue, slice_index_or}
use Rattle.mixed_graph.specs.Vocabulary.{has, MixedGraph, IsAncestor}
use Rattle.m_separation.specs.declared.marks.Mark.{Mark}
use Rattle.m_separation.specs.declared.states.States.{States}
use Rattle.m_separation.specs.Walks.{IsJoined, IsPassed, heads_first, heads_second}

-- the set is that of the ancestors of w
abbrev pub AreAncestors : MixedGraph → (w above : ℕ → Bool) → Type 0
AreAncestors g w above = (v : ℕ) → IsTrue (above v) ↔ IsAncestor g w v

-- a state is a vertex that a walk has come to, with an arrowhead there or not: of the states, those with one, or those without
abbrev pub mask_of : States → Bool → ℕ
mask_of s true = s.heads.bits
mask_of s false = s.tails.bits

-- whether a walk that came to v with an arrowhead or not may leave by an edge with one there or not, where above are the ancestors of w
abbrev pub lets_pass : (w above : ℕ → Bool) → ℕ → Bool → Bool → Bool
lets_pass w above v true true = above v
lets_pass w above v true false = not (w v)
lets_pass w above v false h = not (w v)

-- an edge by which an open walk goes on from the state (v, h) to (u, k)
pub record GoesOn (g : MixedGraph) (w : ℕ → Bool) (v : ℕ) (h : Bool) (u : ℕ) (k : Bool) : Type 0 where
  pub mark : Mark
  pub joined : IsJoined g v mark u
  pub passed : IsPassed g w v h (heads_first mark)
  pub arrives : heads_second mark ≡ k

-- an open walk goes on to (u, k) from one of the states, given as two masks
pub record IsLed (g : MixedGraph) (w : ℕ → Bool) (from : Bool → ℕ) (u : ℕ) (k : Bool) : Type 0 where
  pub head : Bool
  pub vertex : ℕ
  pub member : IsTrue (has (from head) vertex)
  pub goes : GoesOn g w vertex head u k

-- the states at place i of the list
abbrev pub level : List States → ℕ → Bool → ℕ
level levels i = mask_of (slice_index_or levels i (record { tails = record { bits = 0 }; heads = record { bits = 0 } }))

-- level 0 has the members of x outside w, and each level up to `count` what open walks go on to from the one before
pub record AreLevels (g : MixedGraph) (x w : ℕ → Bool) (levels : List States) (count : ℕ) : Type 0 where
  pub none : (v : ℕ) → has (level levels 0 true) v ≡ false
  pub begins : (v : ℕ) → IsTrue (has (level levels 0 false) v) ↔ (IsTrue (x v) × (w v ≡ false))
  pub leads : (i : ℕ) → i < count → (k : Bool) (u : ℕ) → IsTrue (has (level levels (i + 1) k) u) ↔ IsLed g w (level levels i) u k
