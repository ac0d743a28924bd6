-- The members of the objects of `bounds`.
use Rattle.std.specs.Prelude.{ℕ, Bool, List, [], ◌∷◌, ◌++◌, map, codes}
use Rattle.json.specs.Json.{Json, string, boolean}
use Rattle.mixed_graph.specs.Vocabulary.{has, members_below}
use Rattle.count_rows.specs.Vocabulary.{Table}
use Rattle.count_eval.specs.Vocabulary.{cell_of}
use Rattle.count_json.specs.Vocabulary.{cell_json}
use Rattle.answer_json.specs.Vocabulary.{array_of, object_of}
use Rattle.bound_values.specs.declared.questions.Question.{Question}
use Rattle.bound_values.specs.declared.values.CellBounds.{CellBounds}
use Rattle.bound_values.specs.declared.found.CellCrossing.{CellCrossing}
use Rattle.bounds_command.specs.Sentences.{asked_members}
use Rattle.bounds_command.specs.Lines.{ratio_text, value_text}

-- the levels of a set in a cell
abbrev pub levels_json : List (List ℕ) → Table → (cell : List ℕ) → (set : ℕ) → Json
levels_json names t cell set = cell_json names t (cell_of cell) (members_below (has set) 64)

-- the levels of x, of y and of what is given
abbrev pub level_members : List (List ℕ) → Table → Question → (cell : List ℕ) → List (List ℕ × Json)
level_members names t q cell = (codes "x", levels_json names t cell q.x.bits) ∷ (codes "y", levels_json names t cell q.y.bits)
    ∷ (codes "given", levels_json names t cell q.given.bits) ∷ []

-- both ends
abbrev pub ends_members : (low high : List ℕ) → List (List ℕ × Json)
ends_members low high = (codes "at_least", string low) ∷ (codes "at_most", string high) ∷ []

-- a cell with its bounds
abbrev pub bounds_json : List (List ℕ) → Table → Question → CellBounds → Json
bounds_json names t q b = object_of (level_members names t q b.cell ++ ends_members (value_text b.at_least) (value_text b.at_most))

-- what stands before the cells: whether the ends are exact, and the sets
abbrev pub bounds_begun : List (List ℕ) → Question → (is_exact : Bool) → List (List ℕ × Json)
bounds_begun names q is_exact = (codes "answer", string (codes "bounds")) ∷ (codes "exact", boolean is_exact) ∷ asked_members names q

-- the bounds at all cells
abbrev pub bounds_members : List (List ℕ) → Table → Question → (is_exact : Bool) → List CellBounds → List (List ℕ × Json)
bounds_members names t q is_exact bounds = bounds_begun names q is_exact ++ (codes "cells", array_of (map (bounds_json names t q) bounds)) ∷ []

-- the stratum where bounds cross, with them
abbrev pub crossing_json : List (List ℕ) → Table → Question → CellCrossing → Json
crossing_json names t q c = object_of (level_members names t q c.cell ++ ((codes "strata", levels_json names t c.cell q.strata.bits)
    ∷ ends_members (ratio_text c.crossing.lower.top c.crossing.lower.bottom) (ratio_text c.crossing.upper.top c.crossing.upper.bottom)))

-- a crossing
abbrev pub crossing_members : List (List ℕ) → Table → Question → CellCrossing → List (List ℕ × Json)
crossing_members names t q c = ((codes "answer", string (codes "no model")) ∷ asked_members names q) ++ (codes "crossed", crossing_json names t q c) ∷ []
