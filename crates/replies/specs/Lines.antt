-- The line of an open path, and the sets of a separation.
use Rattle.std.specs.Prelude.{ℕ, ◌<◌, ◌≤◌, List, [], ◌∷◌, ◌++◌, codes, slice_index}
use Rattle.m_separation.specs.declared.marks.Mark.{Mark}
use Rattle.m_separation.specs.declared.paths.OpenPath.{OpenPath}
use Rattle.answer_text.specs.Vocabulary.{path_text, set_text}

-- `open: A -> B <- C`
abbrev pub open_text : List (List ℕ) → List ℕ → List Mark → ℕ → List ℕ
open_text names vertices marks count = codes "open: " ++ (path_text names vertices marks count ++ 10 ∷ [])

-- a path that can be printed: it has at least one vertex and at most 64, all of them below n
pub record IsPrintablePath (n : ℕ) (path : OpenPath) : Type 0 where
  pub some : 0 < path.count
  pub few : path.count ≤ 64
  pub below : (i : ℕ) → i < path.count → slice_index path.vertices i < n

-- `X from Y given W`
abbrev pub query_text : List (List ℕ) → ℕ → ℕ → ℕ → List ℕ
query_text names x y given = set_text names x ++ (codes " from " ++ (set_text names y ++ (codes " given " ++ set_text names given)))
