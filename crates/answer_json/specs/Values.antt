-- The JSON of texts, names, sets and paths.
use Rattle.std.specs.Prelude.{ℕ, ◌-◌, ◌<◌, ◌≤◌, slice_index, List, [], ◌∷◌, map, take, codes, decimal, if◌then◌else◌}
use Rattle.std.specs.Str.{is_utf8}
use Rattle.json.specs.Json.{Json, string, number}
use Rattle.mixed_graph.specs.Vocabulary.{has, members_below, name_of}
use Rattle.m_separation.specs.declared.paths.OpenPath.{OpenPath}
use Rattle.m_separation.specs.declared.marks.Mark.{Mark}
use Rattle.m_separation.specs.declared.marks.Mark.TheVariants.{Out, Into, Both}
use Rattle.answer_json.specs.Progress.{array_of, object_of}

-- bytes as the list of their numbers
abbrev pub bytes_json : List ℕ → Json
bytes_json bytes = array_of (map (λ b. number (decimal b)) bytes)

-- bytes: a text where they are UTF-8, as every name is, else the list of their numbers
abbrev pub text_json : List ℕ → Json
text_json bytes = if is_utf8 bytes then string bytes else bytes_json bytes

-- a list of texts
abbrev pub texts_json : List (List ℕ) → Json
texts_json texts = array_of (map text_json texts)

-- the name of a vertex
abbrev pub vertex_json : List (List ℕ) → ℕ → Json
vertex_json names v = text_json (name_of names v)

-- the names of vertices
abbrev pub vertices_json : List (List ℕ) → List ℕ → Json
vertices_json names vs = array_of (map (vertex_json names) vs)

-- a pair of vertices
abbrev pub pair_json : List (List ℕ) → ℕ × ℕ → Json
pair_json names p = vertices_json names (p.0 ∷ p.1 ∷ [])

-- pairs of vertices
abbrev pub pairs_json : List (List ℕ) → List (ℕ × ℕ) → Json
pairs_json names pairs = array_of (map (pair_json names) pairs)

-- a set: its names in index order
abbrev pub set_json : List (List ℕ) → ℕ → Json
set_json names set = vertices_json names (members_below (has set) 64)

-- a list of sets
abbrev pub sets_json : List (List ℕ) → List ℕ → Json
sets_json names sets = array_of (map (set_json names) sets)

-- the word of a mark
abbrev pub mark_word : Mark → List ℕ
mark_word Out = codes "->"
mark_word Into = codes "<-"
mark_word Both = codes "<->"

-- marks
abbrev pub marks_json : List Mark → Json
marks_json marks = array_of (map (λ m. string (mark_word m)) marks)

-- a path of so many vertices: these, and the marks between them
abbrev pub path_json : List (List ℕ) → List ℕ → List Mark → ℕ → Json
path_json names vertices marks count = object_of (
    (codes "vertices", vertices_json names (take count vertices))
    ∷ (codes "marks", marks_json (take (count - 1) marks)) ∷ [])

-- the members x, y and given
abbrev pub query_members : List (List ℕ) → (x y given : ℕ) → List (List ℕ × Json)
query_members names x y given = (codes "x", set_json names x) ∷ (codes "y", set_json names y) ∷ (codes "given", set_json names given) ∷ []

-- a path of one vertex or more, each of which has a name
pub record IsNamedPath (n : ℕ) (path : OpenPath) : Type 0 where
  pub some : 0 < path.count
  pub few : path.count ≤ 64
  pub below : (i : ℕ) → i < path.count → slice_index path.vertices i < n
