-- Open paths, as two arrays hold them.
use Rattle.std.specs.Prelude.{ℕ, zero, suc, ◌+◌, ◌-◌, ◌<◌, ◌≤◌, Bool, List, [], ◌∷◌, slice_index, slice_index_or}
use Rattle.mixed_graph.specs.Vocabulary.{MixedGraph}
use Rattle.m_separation.specs.declared.marks.Mark.{Mark}
use Rattle.m_separation.specs.declared.marks.Mark.TheVariants.{Out}
use Rattle.m_separation.specs.Walks.{Step, IsOpenWalk, IsPath}

-- k steps from vertex i on: mark i joins vertex i to vertex i + 1
abbrev pub steps_from : List ℕ → List Mark → ℕ → ℕ → List Step
steps_from vertices marks i zero = []
steps_from vertices marks i (suc k) = record { mark = slice_index_or marks i Out; to = slice_index vertices (i + 1) } ∷ steps_from vertices marks (i + 1) k

-- the first `count` vertices, at least one and at most 64, are an open path from x to y given w
pub record IsOpenPath (g : MixedGraph) (x y w : ℕ → Bool) (vertices : List ℕ) (marks : List Mark) (count : ℕ) : Type 0 where
  pub some : 0 < count
  pub few : count ≤ 64
  pub walk : IsOpenWalk g x y w (slice_index vertices 0) (steps_from vertices marks 0 (count - 1))
  pub path : IsPath (slice_index vertices 0) (steps_from vertices marks 0 (count - 1))
