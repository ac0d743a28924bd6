-- Equivalent graphs imply the same separations, and graphs with a difference don't.
use Rattle.std.proofs.Common.{ℕ, ◌≡◌, ◌<◌, Bool, false, ◌==◌, List, [], ◌∷◌, IsTrue, sym}
use Rattle.mixed_graph.specs.Vocabulary.{MixedGraph, IsMixedGraph}
use Rattle.m_separation.specs.declared.marks.Mark.{Mark}
use Rattle.m_separation.specs.declared.marks.Mark.TheVariants.{Out, Into, Both}
use Rattle.m_separation.specs.Vocabulary.{Step, last, IsJoined, IsWalk, IsOpenWalk, HasOpenWalk, IsSeparated}
use Rattle.markov_equivalence.specs.Skeletons.{HasArrowsAlone, AreEquivalent}
use Rattle.markov_equivalence.specs.Comparisons.{SeparatesInOne}
use Rattle.markov_equivalence.specs.Sides.{one_of, other_side}
use Rattle.markov_equivalence.specs.declared.sides.Side.{Side}
use Rattle.markov_equivalence.specs.declared.sides.Side.TheVariants.{First, Second}
use Rattle.markov_equivalence.proofs.Ways.{to_way, from_way, passed_first, passed_rest}
use Rattle.markov_equivalence.specs.Separations.{HaveSameSeparations}
use Rattle.markov_equivalence.proofs.Carrying.{agrees, flipped, carried}

module _ (g h : MixedGraph) (gok : IsMixedGraph g) (hok : IsMixedGraph h) (size : g.vertices ≡ h.vertices) (none : HasArrowsAlone g)
    (same : AreEquivalent g h) where
  -- an open walk of g gives one of h with the same ends
  pub open_carried : (x y w : ℕ → Bool) → HasOpenWalk g x y w → HasOpenWalk h x y w
  open_carried x y w o = along o.0 o.1 o.2
    where
      along : (v : ℕ) (r : List Step) → IsOpenWalk g x y w v r → HasOpenWalk h x y w
      along v r o =
          let way = to_way g w none false v r o.walk (passed_first g w v r o.first_outside o.passed) o.last_outside in
          let t = from_way h w (last v r) false v (carried g h gok hok w (last v r) (agrees g h same) (agrees h g (flipped g h same)) v way) in (
            v,
            t.steps,
            record {
              vertex = rw size at o.vertex;
              begins = o.begins;
              ends = rw t.ends o.ends;
              first_outside = o.first_outside;
              last_outside = rw t.ends t.outside;
              walk = t.walk;
              passed = passed_rest h w v t.steps t.passed;
            },
          )

  -- what separates in h separates in g
  pub separated_back : (x y w : ℕ → Bool) → IsSeparated h x y w → IsSeparated g x y w
  separated_back x y w s v r o = let c = open_carried x y w (v, r, o) in s c.0 c.1 c.2

-- a set separates in one of two graphs alone, so they don't imply the same separations
pub differ_one : (k g : MixedGraph) (a b : ℕ) (given : ℕ → Bool) → SeparatesInOne k g a b given → HaveSameSeparations k g → ⊥
differ_one k g a b given s same = let o = s.not_there in (same (λ v. v == a) (λ v. v == b) given).0 s.there o.0 o.1 o.2

-- the same in the other order
pub flipped_separations : (g h : MixedGraph) → HaveSameSeparations g h → HaveSameSeparations h g
flipped_separations g h same x y w = ((same x y w).1, (same x y w).0)

-- the separation of a difference holds in one graph alone
pub differs : (g h : MixedGraph) (side : Side) (a b : ℕ) (given : ℕ → Bool) → SeparatesInOne (one_of g h side) (one_of g h (other_side side)) a b given
    → HaveSameSeparations g h → ⊥
differs g h First a b given s same = differ_one g h a b given s same
differs g h Second a b given s same = differ_one h g a b given s (flipped_separations g h same)

-- where a walk from a vertex ends, there is a vertex
pub last_below : (g : MixedGraph) → IsMixedGraph g → (v : ℕ) (r : List Step) → v < g.vertices → IsWalk g v r → last v r < g.vertices
last_below g ok v [] below k = below
last_below g ok v (s ∷ r) below k = last_below g ok s.to r (joined_below s.mark k.0) k.1
  where
    joined_below : (m : Mark) → IsJoined g v m s.to → s.to < g.vertices
    joined_below Out j = ok.head_below v s.to j
    joined_below Into j = ok.tail_below s.to v j
    joined_below Both j = ok.both_below s.to v (ok.symmetric v s.to j)

-- an open walk between larger sets
pub open_between : (g : MixedGraph) (x y x' y' w : ℕ → Bool) → ((v : ℕ) → IsTrue (x v) → IsTrue (x' v)) → ((v : ℕ) → IsTrue (y v) → IsTrue (y' v))
    → HasOpenWalk g x y w → HasOpenWalk g x' y' w
open_between g x y x' y' w f h (v, r, o) = (
  v,
  r,
  record {
    vertex = o.vertex;
    begins = f v o.begins;
    ends = h (last v r) o.ends;
    first_outside = o.first_outside;
    last_outside = o.last_outside;
    walk = o.walk;
    passed = o.passed;
  },
)

-- equivalent graphs imply the same separations
pub same_separations : (g h : MixedGraph) → IsMixedGraph g → IsMixedGraph h → g.vertices ≡ h.vertices → HasArrowsAlone g → HasArrowsAlone h
    → AreEquivalent g h → HaveSameSeparations g h
same_separations g h gok hok size gone hone same x y w = (
  separated_back h g hok gok (sym size) hone (flipped g h same) x y w,
  separated_back g h gok hok size gone same x y w,
)
