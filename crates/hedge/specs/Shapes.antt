-- What the sets of a hedge are, without its choice and its links.
use Rattle.std.specs.Prelude.{◌≡◌, ℕ, ◌≤◌, false, IsTrue}
use Rattle.mixed_graph.specs.Vocabulary.{has, Within, Apart, MixedGraph, IsMixedGraph, IsAncestor, induced}
use Rattle.hedge.specs.Linked.{IsInside, IsJoinedSet}
use Rattle.hedge.specs.declared.hedge.Hedge.{Hedge}
use Rattle.hedge.specs.Hedges.{Meets, Reaches, IsHedge}

-- v has a child in the set
pub record LeadsInto (g : MixedGraph) (s v : ℕ) : Type 0 where
  pub child : ℕ
  pub arrow : IsTrue (g.arrow v child)
  pub within : IsTrue (has s child)

-- two joined sets, one in the other, in which every vertex leads to the roots, and the roots to y outside x
pub record AreSetsOfHedge (g : MixedGraph) (x y big small roots : ℕ) : Type 0 where
  pub low : Within g.vertices (has big)
  pub small_inside : IsInside small big
  pub roots_inside : IsInside roots small
  pub rooted : Meets (has roots) (has small)
  pub meets : Meets (has big) (has x)
  pub apart : Apart (has small) (has x)
  pub small_leads : (v : ℕ) → IsTrue (has small v) → has roots v ≡ false → LeadsInto g small v
  pub big_leads : (v : ℕ) → IsTrue (has big v) → has small v ≡ false → LeadsInto g big v
  pub small_reaches : (v : ℕ) → IsTrue (has small v) → IsAncestor (induced g (has small)) (has roots) v
  pub big_reaches : (v : ℕ) → IsTrue (has big v) → IsAncestor (induced g (has big)) (has small) v
  pub small_joined : IsJoinedSet g small
  pub big_joined : IsJoinedSet g big
  pub reaches : (v : ℕ) → IsTrue (has roots v) → Reaches g x y v

-- s with these roots is the set of a C-forest: bidirected edges join it inside itself, and each member has a directed path inside it to a root
pub record IsForest (g : MixedGraph) (s roots : ℕ) : Type 0 where
  pub roots_inside : IsInside roots s
  pub joined : IsJoinedSet g s
  pub leads : (v : ℕ) → IsTrue (has s v) → IsAncestor (induced g (has s)) (has roots) v

-- Big and small form a hedge for the effect of x on y (Shpitser and Pearl 2006): they are C-forests with the same roots, small inside big; big meets
-- x, and small doesn't; each root has a directed path to y outside x.
pub record FormHedge (g : MixedGraph) (x y big small roots : ℕ) : Type 0 where
  pub low : Within g.vertices (has big)
  pub big_forest : IsForest g big roots
  pub small_forest : IsForest g small roots
  pub inside : IsInside small big
  pub rooted : (v : ℕ) × IsTrue (has roots v)
  pub meets : Meets (has big) (has x)
  pub apart : Apart (has small) (has x)
  pub reaches : (v : ℕ) → IsTrue (has roots v) → Reaches g x y v

-- the sets of a hedge are such sets
abbrev pub HedgeHasSets : Type 0
HedgeHasSets = (g : MixedGraph) (x y : ℕ) (h : Hedge) → IsMixedGraph g → g.vertices ≤ 64 → IsHedge g x y h
    → AreSetsOfHedge g x y h.big.bits h.small.bits h.roots.bits

-- the sets of a hedge form one as the textbook has it
abbrev pub SetsFormHedge : Type 0
SetsFormHedge = (g : MixedGraph) (x y : ℕ) (h : Hedge) → IsMixedGraph g → g.vertices ≤ 64 → IsHedge g x y h
    → FormHedge g x y h.big.bits h.small.bits h.roots.bits
