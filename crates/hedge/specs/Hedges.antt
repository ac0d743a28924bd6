-- Hedges: what shows that an effect isn't identifiable (Shpitser and Pearl).
use Rattle.std.specs.Prelude.{◌≡◌, ℕ, ◌<◌, ◌⊎◌, ◌↔◌, Bool, false, not, IsTrue, length, slice_index}
use Rattle.mixed_graph.specs.Vocabulary.{has, members_below, Within, Apart, MixedGraph, IsAncestor, induced}
use Rattle.hedge.specs.Linked.{IsInside}
use Rattle.hedge.specs.declared.hedge.Hedge.{Hedge}

-- the two sets have a member in common
pub record Meets (s t : ℕ → Bool) : Type 0 where
  pub vertex : ℕ
  pub in_first : IsTrue (s vertex)
  pub in_second : IsTrue (t vertex)

-- what isn't in the set
abbrev pub outside : ℕ → ℕ → Bool
outside x v = not (has x v)

-- how many members a set has
abbrev pub size_of : ℕ → ℕ
size_of s = length (members_below (has s) 64)

-- big lies below n, small in big, the roots in small, and there is a root
pub record AreHedgeSets (g : MixedGraph) (h : Hedge) : Type 0 where
  pub low : Within g.vertices (has h.big.bits)
  pub small_inside : IsInside h.small.bits h.big.bits
  pub roots_inside : IsInside h.roots.bits h.small.bits
  pub rooted : (v : ℕ) × IsTrue (has h.roots.bits v)

-- c is a child of v in big, and in small where v is
pub record IsChildInside (g : MixedGraph) (h : Hedge) (v c : ℕ) : Type 0 where
  pub arrow : IsTrue (g.arrow v c)
  pub in_big : IsTrue (has h.big.bits c)
  pub in_small : IsTrue (has h.small.bits v) → IsTrue (has h.small.bits c)

-- a member of big that is no root chooses such a child; any other vertex has 64, which is none
pub record IsRightChoice (g : MixedGraph) (h : Hedge) (v : ℕ) : Type 0 where
  pub chosen : IsTrue (has h.big.bits v) → has h.roots.bits v ≡ false → IsChildInside g h v (slice_index h.choice.next v)
  pub none : (has h.big.bits v ≡ false) ⊎ IsTrue (has h.roots.bits v) → slice_index h.choice.next v ≡ 64

-- v stands exactly once among the entries, and its place is below the number of members of small exactly where it is in small
pub record IsPlaced (h : Hedge) (v : ℕ) : Type 0 where
  pub place : ℕ
  pub listed : place < h.links.count
  pub here : slice_index h.links.found place ≡ v
  pub once : (i : ℕ) → i < h.links.count → slice_index h.links.found i ≡ v → i ≡ place
  pub small_first : IsTrue (has h.small.bits v) ↔ (place < size_of h.small.bits)

-- the partner of entry i is an earlier entry that is joined to it, and in small where entry i is
pub record IsRightPartner (g : MixedGraph) (h : Hedge) (i : ℕ) : Type 0 where
  pub place : ℕ
  pub earlier : place < i
  pub is : slice_index h.links.found place ≡ slice_index h.links.partner i
  pub joined : IsTrue (g.both (slice_index h.links.found i) (slice_index h.links.partner i))
  pub in_small : IsTrue (has h.small.bits (slice_index h.links.found i)) → IsTrue (has h.small.bits (slice_index h.links.partner i))

-- the entries are big, each member once and small first, and each after the first has a right partner
pub record AreRightLinks (g : MixedGraph) (h : Hedge) : Type 0 where
  pub placed : (v : ℕ) → IsTrue (has h.big.bits v) → IsPlaced h v
  pub inside : (i : ℕ) → i < h.links.count → IsTrue (has h.big.bits (slice_index h.links.found i))
  pub partners : (i : ℕ) → 0 < i → i < h.links.count → IsRightPartner g h i

-- v has a directed path to a member of y outside x
abbrev pub Reaches : MixedGraph → (x y v : ℕ) → Type 0
Reaches g x y v = IsAncestor (induced g (outside x)) (has y) v

-- a hedge for the effect of x on y
pub record IsHedge (g : MixedGraph) (x y : ℕ) (h : Hedge) : Type 0 where
  pub sets : AreHedgeSets g h
  pub meets : Meets (has h.big.bits) (has x)
  pub apart : Apart (has h.small.bits) (has x)
  pub choices : (v : ℕ) → v < 64 → IsRightChoice g h v
  pub links : AreRightLinks g h
  pub roots : (v : ℕ) → IsTrue (has h.roots.bits v) → Reaches g x y v
