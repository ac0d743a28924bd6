-- How the weight of a set that has its parents grows by one vertex, where arrows are held: by the probability of the vertex given its pillow.
use Rattle.std.specs.Prelude.{ℕ, ◌*◌, ◌≡◌, ◌≢◌, Bool, true, false, not, ◌&&◌, ◌||◌, if◌then◌else◌, ◌==◌}
use Rattle.mixed_graph.specs.Vocabulary.{MixedGraph, IsMixedGraph}
use Rattle.finite_models.specs.Vocabulary.{FiniteModel, Fits, IsAssignment, IsPositiveModel, event_weight}
use Rattle.treated_models.specs.Treated.{held, factor_of}

-- the set without v
abbrev pub without : (ℕ → Bool) → ℕ → ℕ → Bool
without a v w = a w && not (w == v)

-- the set with v
abbrev pub with_one : (ℕ → Bool) → ℕ → ℕ → Bool
with_one a v w = a w || (w == v)

-- with each vertex its parents are there
abbrev pub HasParents : MixedGraph → (ℕ → Bool) → Type 0
HasParents g a = (p v : ℕ) → g.arrow p v ≡ true → a v ≡ true → a p ≡ true

-- v may be the last vertex of a: it has no child there; and whatever member of a is joined to a member of near is in near, as in the district of v in a
pub record IsLast (g : MixedGraph) (a near : ℕ → Bool) (v : ℕ) : Type 0 where
  pub parents : HasParents g a
  pub childless : (w : ℕ) → g.arrow v w ≡ true → a w ≡ true → ⊥
  pub own : near v ≡ true
  pub inside : (w : ℕ) → near w ≡ true → a w ≡ true
  pub joined : (u w : ℕ) → near u ≡ true → g.both u w ≡ true → a w ≡ true → near w ≡ true

-- the set has the rest of near, and the parents of its members, and lies in a without v: as the pillow of v
pub record IsAround (g : MixedGraph) (a near : ℕ → Bool) (v : ℕ) (pillow : ℕ → Bool) : Type 0 where
  pub rest : (w : ℕ) → near w ≡ true → w ≢ v → pillow w ≡ true
  pub parents : (p w : ℕ) → g.arrow p w ≡ true → near w ≡ true → pillow p ≡ true
  pub inside : (w : ℕ) → pillow w ≡ true → a w ≡ true
  pub other : (w : ℕ) → pillow w ≡ true → w ≢ v

-- no member of x in near has a child there
abbrev pub IsFree : MixedGraph → (x near : ℕ → Bool) → Type 0
IsFree g x near = (p w : ℕ) → g.arrow p w ≡ true → near w ≡ true → x p ≡ true → near p ≡ false

-- the values that the district reads: x outside it at s, all else at r
abbrev pub read_near : (x near : ℕ → Bool) → (s r : ℕ → ℕ) → ℕ → ℕ
read_near x near s r w = if x w && not (near w) then s w else r w

-- The factor of a with held arrows is that of a without v times P(v | pillow of v), in which x is read as held outside the district of v, and else as
-- observed (Tian and Pearl 2002 where nothing is held).
abbrev pub NextFactor : Type 0
NextFactor = (g : MixedGraph) → IsMixedGraph g → (m : FiniteModel) → Fits g m → IsPositiveModel m → (x a near pillow : ℕ → Bool) (v : ℕ)
    → IsLast g a near v → IsAround g a near v pillow → IsFree g x near → x v ≡ false
    → (s r : ℕ → ℕ) → IsAssignment m.vertices m.size s → IsAssignment m.vertices m.size r
    → factor_of (held m x s) a r * event_weight m pillow (read_near x near s r)
    ≡ event_weight m (with_one pillow v) (read_near x near s r) * factor_of (held m x s) (without a v) r

-- where no arrow leads from x into a set that has its parents and holds x, the factor of the set with held arrows is its observed weight
abbrev pub FirstFactor : Type 0
FirstFactor = (g : MixedGraph) → IsMixedGraph g → (m : FiniteModel) → Fits g m → (x c : ℕ → Bool) → HasParents g c
    → ((v : ℕ) → x v ≡ true → c v ≡ true) → ((p v : ℕ) → g.arrow p v ≡ true → c v ≡ true → x p ≡ false)
    → (s r : ℕ → ℕ) → factor_of (held m x s) c r ≡ event_weight m c r
