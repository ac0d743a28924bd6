-- Graphs that imply the same separations (Pearl, Causality, chapter 1).
use Rattle.std.specs.Prelude.{ℕ, Bool, ◌↔◌, ◌-◌, ◌==◌, slice_index}
use Rattle.mixed_graph.specs.Vocabulary.{MixedGraph}
use Rattle.m_separation.specs.declared.paths.OpenPath.{OpenPath}
use Rattle.m_separation.specs.Vocabulary.{IsSeparated, IsOpenPath}
use Rattle.do_rules.specs.Vocabulary.{AreThreeSets, AreIndependent}

-- any sets x and y are separated by w in the one graph exactly where they are in the other
abbrev pub HaveSameSeparations : MixedGraph → MixedGraph → Type 0
HaveSameSeparations g h = (x y w : ℕ → Bool) → IsSeparated g x y w ↔ IsSeparated h x y w

-- any disjoint sets x, y and w of vertices are such that x and y are independent given w in every model of the one graph exactly where they are in
-- every model of the other
abbrev pub HaveSameIndependences : MixedGraph → MixedGraph → Type 0
HaveSameIndependences g h = (x y w : ℕ → Bool) → AreThreeSets g.vertices x y w → AreIndependent g x y w ↔ AreIndependent h x y w

-- the path r is open in g given w, and it has the first and the last vertex of the path p
abbrev pub IsOpenWithEndsOf : MixedGraph → (ℕ → Bool) → (p r : OpenPath) → Type 0
IsOpenWithEndsOf g w p r =
    IsOpenPath g (λ v. v == slice_index p.vertices 0) (λ v. v == slice_index p.vertices (p.count - 1)) w r.vertices r.marks r.count
