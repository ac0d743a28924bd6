-- The levels of a cell as a value.
use Rattle.std.specs.Prelude.{ℕ, List, [], ◌∷◌, map}
use Rattle.json.specs.Json.{Json}
use Rattle.count_rows.specs.Vocabulary.{Table}
use Rattle.count_answers.specs.Vocabulary.{level_text}
use Rattle.answer_json.specs.Vocabulary.{array_of, text_json, vertex_json}

-- a vertex with its level of that number
abbrev pub level_json : List (List ℕ) → Table → (v k : ℕ) → Json
level_json names t v k = array_of (vertex_json names v ∷ text_json (level_text t v k) ∷ [])

-- the levels of these vertices in a cell
abbrev pub cell_json : List (List ℕ) → Table → (ℕ → ℕ) → List ℕ → Json
cell_json names t cell vs = array_of (map (λ v. level_json names t v (cell v)) vs)
