-- What keeps data from being a hedge, the first in order.
use Rattle.std.specs.Prelude.{◌≡◌, ℕ, ◌<◌, ◌⊎◌, false, IsTrue, slice_index}
use Rattle.mixed_graph.specs.Vocabulary.{has, Apart, MixedGraph}
use Rattle.hedge.specs.declared.hedge.Hedge.{Hedge}
use Rattle.hedge.specs.declared.hedge.HedgeFault.{HedgeFault}
use Rattle.hedge.specs.declared.hedge.HedgeFault.TheVariants.{Sets, BigMissesX, SmallMeetsX, Choice, Link, Root}
use Rattle.hedge.specs.Hedges.{Meets, AreHedgeSets, IsRightChoice, IsPlaced, IsRightPartner, AreRightLinks, Reaches}

-- v is the lowest number of which P holds and Q doesn't
pub record IsLowestWrong (P Q : ℕ → Type 0) (v : ℕ) : Type 0 where
  pub among : P v
  pub wrong : Q v → ⊥
  pub before : (u : ℕ) → u < v → P u → Q u

-- v is an entry after the first
pub record IsLaterEntry (h : Hedge) (v : ℕ) : Type 0 where
  pub place : ℕ
  pub later : 0 < place
  pub listed : place < h.links.count
  pub here : slice_index h.links.found place ≡ v

-- where v is an entry after the first, its partner is right
abbrev pub HasRightPartner : MixedGraph → Hedge → ℕ → Type 0
HasRightPartner g h v = (i : ℕ) → 0 < i → i < h.links.count → slice_index h.links.found i ≡ v → IsRightPartner g h i

-- every member of big is placed
abbrev pub AllPlaced : Hedge → Type 0
AllPlaced h = (v : ℕ) → IsTrue (has h.big.bits v) → IsPlaced h v

-- some entry is outside big
pub record HasStranger (h : Hedge) : Type 0 where
  pub place : ℕ
  pub listed : place < h.links.count
  pub outside : has h.big.bits (slice_index h.links.found place) ≡ false

-- no entry is outside big
abbrev pub AllInside : Hedge → Type 0
AllInside h = (i : ℕ) → i < h.links.count → IsTrue (has h.big.bits (slice_index h.links.found i))

-- the lowest member of big that isn't placed; where all are, 64 for an entry outside big; where none is, the lowest with a wrong partner
abbrev pub IsWrongLink : MixedGraph → Hedge → ℕ → Type 0
IsWrongLink g h v = IsLowestWrong (λ u. IsTrue (has h.big.bits u)) (IsPlaced h) v
    ⊎ ((AllPlaced h × HasStranger h × (v ≡ 64))
    ⊎ (AllPlaced h × AllInside h × IsLowestWrong (IsLaterEntry h) (HasRightPartner g h) v))

-- the sets are right, and big meets x
abbrev pub MeetsIn : MixedGraph → ℕ → Hedge → Type 0
MeetsIn g x h = AreHedgeSets g h × Meets (has h.big.bits) (has x)

-- the sets are right, big meets x, and small doesn't
abbrev pub IsOffIn : MixedGraph → ℕ → Hedge → Type 0
IsOffIn g x h = MeetsIn g x h × Apart (has h.small.bits) (has x)

-- the sets are right, big meets x, small doesn't, and the choices are right
abbrev pub ChoosesIn : MixedGraph → ℕ → Hedge → Type 0
ChoosesIn g x h = IsOffIn g x h × ((v : ℕ) → v < 64 → IsRightChoice g h v)

-- the fault that comes first, with the lowest vertex
abbrev pub IsFirstHedgeFault : MixedGraph → (x y : ℕ) → Hedge → HedgeFault → Type 0
IsFirstHedgeFault g x y h Sets = AreHedgeSets g h → ⊥
IsFirstHedgeFault g x y h BigMissesX = AreHedgeSets g h × Apart (has h.big.bits) (has x)
IsFirstHedgeFault g x y h SmallMeetsX = MeetsIn g x h × Meets (has h.small.bits) (has x)
IsFirstHedgeFault g x y h (Choice v) = IsOffIn g x h × IsLowestWrong (λ u. u < 64) (IsRightChoice g h) v
IsFirstHedgeFault g x y h (Link v) = ChoosesIn g x h × IsWrongLink g h v
IsFirstHedgeFault g x y h (Root v) = ChoosesIn g x h × AreRightLinks g h × IsLowestWrong (λ u. IsTrue (has h.roots.bits u)) (Reaches g x y) v
