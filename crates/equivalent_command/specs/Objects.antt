-- The members of the objects of `equivalent`.
use Rattle.std.specs.Prelude.{ℕ, Bool, List, [], ◌∷◌, codes}
use Rattle.json.specs.Json.{Json, string, boolean}
use Rattle.m_separation.specs.declared.paths.OpenPath.{OpenPath}
use Rattle.markov_equivalence.specs.declared.comparison.Difference.{Difference}
use Rattle.markov_equivalence.specs.declared.sides.Side.{Side}
use Rattle.markov_equivalence.specs.Vocabulary.{other_side}
use Rattle.targets.specs.declared.query.Sets.{Sets}
use Rattle.answer_json.specs.Vocabulary.{object_of, set_json, vertices_json, path_json}
use Rattle.equivalent_command.specs.Lines.{which}

-- ---- graphs that don't differ

-- that they don't, the sets that are asked about, and whether these are separated
abbrev pub asked_members : List (List ℕ) → Sets → Bool → List (List ℕ × Json)
asked_members names s are_separated = (codes "answer", string (codes "equivalent"))
    ∷ (codes "x", set_json names s.x.bits) ∷ (codes "y", set_json names s.y.bits) ∷ (codes "given", set_json names s.given.bits)
    ∷ (codes "separated", boolean are_separated) ∷ []

-- an open path of each
abbrev pub paths_members : List (List ℕ) → (first second : OpenPath) → List (List ℕ × Json)
paths_members names first second =
    (codes "first", path_json names first.vertices first.marks first.count)
    ∷ (codes "second", path_json names second.vertices second.marks second.count) ∷ []

-- ---- graphs that differ

-- what one graph has alone: its kind, its vertices, and the graph that has it
abbrev pub difference_json : (kind : List ℕ) → List (List ℕ) → (vertices : List ℕ) → Side → Json
difference_json kind names vertices side = object_of (
    (codes "kind", string kind) ∷ (codes "vertices", vertices_json names vertices) ∷ (codes "in", string (which side)) ∷ [])

-- the separation that holds in one graph alone
abbrev pub separation_json : List (List ℕ) → Difference → Json
separation_json names d = object_of (
    (codes "x", vertices_json names (d.a ∷ [])) ∷ (codes "y", vertices_json names (d.b ∷ [])) ∷ (codes "given", set_json names d.given.bits) ∷ [])

-- what one graph has alone, and a separation that holds in the other alone
abbrev pub different_members : (kind : List ℕ) → List (List ℕ) → (vertices : List ℕ) → Difference → List (List ℕ × Json)
different_members kind names vertices d = (codes "answer", string (codes "not equivalent"))
    ∷ (codes "difference", difference_json kind names vertices (other_side d.holds_in))
    ∷ (codes "separated_in", string (which d.holds_in))
    ∷ (codes "separation", separation_json names d) ∷ []
