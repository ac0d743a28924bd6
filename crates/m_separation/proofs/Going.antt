use Rattle.std.proofs.Common.{◌≡◌, ℕ, ◌<◌, Bool, true, false, ◌==◌, List, [], ◌∷◌, refl, IsTrue}
use Rattle.std.proofs.lemmas.Bool.{not-true, not_from_false, eq-eqb, eqb-true}
use Rattle.mixed_graph.specs.Vocabulary.{MixedGraph, IsMixedGraph}
use Rattle.m_separation.specs.declared.marks.Mark.{Mark}
use Rattle.m_separation.specs.declared.marks.Mark.TheVariants.{Out, Into, Both}
use Rattle.m_separation.specs.Walks.{Step, IsJoined, IsWalk, last, heads_second, IsPassed, ArePassed, ArePassedFrom, IsOpenWalk, HasOpenWalk, IsReached}
use Rattle.m_separation.specs.States.{AreAncestors, lets_pass, GoesOn}

-- the second vertex of an edge is one of the graph's
pub joined_below : (g : MixedGraph) → IsMixedGraph g → (u : ℕ) (m : Mark) (v : ℕ) → IsJoined g u m v → v < g.vertices
joined_below g valid u Out v j = valid.head_below u v j
joined_below g valid u Into v j = valid.tail_below v u j
joined_below g valid u Both v j = valid.both_below v u (valid.symmetric u v j)

-- a walk from a vertex of the graph ends at one
pub last_below : (g : MixedGraph) → IsMixedGraph g → (v : ℕ) (r : List Step) → v < g.vertices → IsWalk g v r → last v r < g.vertices
last_below g valid v [] below walk = below
last_below g valid v (s ∷ r) below walk = last_below g valid s.to r (joined_below g valid v s.mark s.to walk.0) walk.1

-- the code's test of a vertex that lets a walk pass
pub passed_from_test : (g : MixedGraph) (w above : ℕ → Bool) → AreAncestors g w above → (v : ℕ) (h k : Bool) → IsTrue (lets_pass w above v h k)
    → IsPassed g w v h k
passed_from_test g w above are v true true t = (are v).0 t
passed_from_test g w above are v true false t = not-true (w v) t
passed_from_test g w above are v false k t = not-true (w v) t

pub test_from_passed : (g : MixedGraph) (w above : ℕ → Bool) → AreAncestors g w above → (v : ℕ) (h k : Bool) → IsPassed g w v h k
    → IsTrue (lets_pass w above v h k)
test_from_passed g w above are v true true p = (are v).1 p
test_from_passed g w above are v true false p = not_from_false (w v) p
test_from_passed g w above are v false k p = not_from_false (w v) p

-- the first vertex of an open walk, which is outside w, lets it pass as one that was reached without an arrowhead
pub passed_from_start : (g : MixedGraph) (w : ℕ → Bool) (v : ℕ) (r : List Step) → w v ≡ false → ArePassed g w r → ArePassedFrom g w false v r
passed_from_start g w v [] out p = tt
passed_from_start g w v (s ∷ r) out p = (out, p)

-- where a walk passes at its first vertex and all later ones, it passes at its inner ones
pub passed_inside : (g : MixedGraph) (w : ℕ → Bool) (h : Bool) (v : ℕ) (r : List Step) → ArePassedFrom g w h v r → ArePassed g w r
passed_inside g w h v [] p = tt
passed_inside g w h v (s ∷ r) p = p.1

-- the edge that a first step takes
pub goes_first : (g : MixedGraph) (w : ℕ → Bool) (h : Bool) (v : ℕ) (s : Step) (r : List Step) → IsWalk g v (s ∷ r) → ArePassedFrom g w h v (s ∷ r)
    → GoesOn g w v h s.to (heads_second s.mark)
goes_first g w h v s r walk p = record { mark = s.mark; joined = walk.0; passed = p.0; arrives = refl }

-- where an open walk ends is reached, and a walk to a member of y is one to y
pub reached_from_open : (g : MixedGraph) (x y w : ℕ → Bool) (v : ℕ) (r : List Step) → IsOpenWalk g x y w v r → IsReached g x w (last v r)
reached_from_open g x y w v r o = (
  v,
  r,
  record {
    vertex = o.vertex;
    begins = o.begins;
    ends = eq-eqb (last v r) (last v r) refl;
    first_outside = o.first_outside;
    last_outside = o.last_outside;
    walk = o.walk;
    passed = o.passed;
  },
)

pub open_to : (g : MixedGraph) (x y w : ℕ → Bool) (u v : ℕ) (r : List Step) → IsTrue (y u) → IsOpenWalk g x (λ z. z == u) w v r → IsOpenWalk g x y w v r
open_to g x y w u v r i o = record {
  vertex = o.vertex;
  begins = o.begins;
  ends = rw (eqb-true (last v r) u o.ends) i;
  first_outside = o.first_outside;
  last_outside = o.last_outside;
  walk = o.walk;
  passed = o.passed;
}

pub open_from_reached : (g : MixedGraph) (x y w : ℕ → Bool) (u : ℕ) → IsReached g x w u → IsTrue (y u) → HasOpenWalk g x y w
open_from_reached g x y w u r i = (r.0, r.1, open_to g x y w u r.0 r.1 i r.2)
