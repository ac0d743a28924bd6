-- The objects of the answers of `implications`.
use Rattle.std.specs.Prelude.{ℕ, List, [], ◌∷◌, ◌++◌, Option, Some, None, map, codes}
use Rattle.std.specs.Fmt.{signed_decimal}
use Rattle.json.specs.Json.{Json, string}
use Rattle.count_rows.specs.Vocabulary.{Table}
use Rattle.count_eval.specs.Vocabulary.{cell_of}
use Rattle.implications.specs.declared.pairs.Implication.{Implication}
use Rattle.implied_differences.specs.declared.largest.Difference.{Difference}
use Rattle.answer_json.specs.Vocabulary.{array_of, object_of, vertex_json, set_json}
use Rattle.count_json.specs.Vocabulary.{cell_json}
use Rattle.implications_command.specs.declared.differences.Measured.{Measured}
use Rattle.implications_command.specs.Differences.{first_broken}
use Rattle.implications_command.specs.Lines.{vertices_of}

-- the answer in a word, and pairs
abbrev pub listed_members : (word : List ℕ) → List Json → List (List ℕ × Json)
listed_members word pairs = (codes "answer", string word) ∷ (codes "pairs", array_of pairs) ∷ []

-- their object
abbrev pub listed_json : (word : List ℕ) → List Json → Json
listed_json word pairs = object_of (listed_members word pairs)

-- no set separates any two vertices
abbrev pub none_json : Json
none_json = listed_json (codes "none") []

-- the two vertices of a pair, and what is given
abbrev pub pair_members : List (List ℕ) → Implication → List (List ℕ × Json)
pair_members names i = (codes "x", vertex_json names i.a) ∷ (codes "y", vertex_json names i.b) ∷ (codes "given", set_json names i.given.bits) ∷ []

-- a pair
abbrev pub pair_json : List (List ℕ) → Implication → Json
pair_json names i = object_of (pair_members names i)

-- the pairs
abbrev pub pairs_json : List (List ℕ) → List Implication → Json
pairs_json names list = listed_json (codes "implications") (map (pair_json names) list)

-- the largest difference of the counts for a pair, as a text of its digits, and the cell where it is
abbrev pub difference_members : List (List ℕ) → Table → Implication → Difference → List (List ℕ × Json)
difference_members names t i d =
    (codes "difference", string (signed_decimal d.value)) ∷ (codes "cell", cell_json names t (cell_of d.cell) (vertices_of i)) ∷ []

-- a pair with its difference
abbrev pub measured_json : List (List ℕ) → Table → Measured → Json
measured_json names t m = object_of (pair_members names m.pair ++ difference_members names t m.pair m.difference)

-- the pair by which no model has the counts, where there is one
abbrev pub broken_members : List (List ℕ) → Option Implication → List (List ℕ × Json)
broken_members names None = []
broken_members names (Some i) = (codes "no_model", pair_json names i) ∷ []

-- the pairs with their differences, and the first whose difference isn't 0
abbrev pub differences_members : List (List ℕ) → Table → List Measured → List (List ℕ × Json)
differences_members names t measured =
    listed_members (codes "implications") (map (measured_json names t) measured) ++ broken_members names (first_broken measured)

-- their object
abbrev pub differences_json : List (List ℕ) → Table → List Measured → Json
differences_json names t measured = object_of (differences_members names t measured)
