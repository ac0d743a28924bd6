-- The vertices of an open path are vertices of the graph, so that they have names.
use Rattle.std.proofs.Common.{◌≡◌, ℕ, ◌+◌, ◌-◌, ◌<◌, ◌≤◌, Bool, List, arith}
use Rattle.std.specs.Prelude.{zero, suc, slice_index}
use Rattle.mixed_graph.specs.Vocabulary.{MixedGraph, IsMixedGraph}
use Rattle.m_separation.specs.declared.marks.Mark.{Mark}
use Rattle.m_separation.specs.declared.paths.OpenPath.{OpenPath}
use Rattle.m_separation.specs.Vocabulary.{IsWalk, steps_from, IsOpenPath}
use Rattle.m_separation.proofs.Going.{joined_below}
use Rattle.replies.specs.Lines.{IsPrintablePath}

steps_below : (g : MixedGraph) → IsMixedGraph g → (vertices : List ℕ) (marks : List Mark) (i k : ℕ) →
    slice_index vertices i < g.vertices → IsWalk g (slice_index vertices i) (steps_from vertices marks i k) →
    (j : ℕ) → j ≤ k → slice_index vertices (i + j) < g.vertices
steps_below g valid vertices marks i k below walk zero h = let e : i + 0 ≡ i = omega arith in rw e below
steps_below g valid vertices marks i zero below walk (suc j) h = absurd (omega arith)
steps_below g valid vertices marks i (suc k) below walk (suc j) h =
    let next = joined_below g valid (slice_index vertices i) _ (slice_index vertices (i + 1)) walk.0 in
    let e : i + suc j ≡ i + 1 + j = omega arith in
    rw e (steps_below g valid vertices marks (i + 1) k next walk.1 j (omega arith))

-- the vertices of an open path are vertices of the graph
pub path_below : (g : MixedGraph) → IsMixedGraph g → (x y w : ℕ → Bool) (vertices : List ℕ) (marks : List Mark) (count : ℕ) →
    IsOpenPath g x y w vertices marks count → (i : ℕ) → i < count → slice_index vertices i < g.vertices
path_below g valid x y w vertices marks count p i h =
    let e : 0 + i ≡ i = omega arith in
    let r = steps_below g valid vertices marks 0 (count - 1) p.walk.vertex p.walk.walk i (omega (arith, p.some)) in
    rw e at r

-- so that it can be printed
pub path_printable : (g : MixedGraph) → IsMixedGraph g → (x y w : ℕ → Bool) (path : OpenPath) → IsOpenPath g x y w path.vertices path.marks path.count
    → IsPrintablePath g.vertices path
path_printable g valid x y w path o = record { some = o.some; few = o.few; below = path_below g valid x y w path.vertices path.marks path.count o }
