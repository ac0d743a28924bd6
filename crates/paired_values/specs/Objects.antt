-- The objects of values: one for each cell.
use Rattle.std.specs.Prelude.{ℕ, Bool, true, false, List, [], ◌∷◌, ◌++◌, map}
use Rattle.json.specs.Json.{Json}
use Rattle.mixed_graph.specs.Vocabulary.{has, members_below}
use Rattle.quantity.specs.Kinds.{Pair}
use Rattle.count_rows.specs.Vocabulary.{Table}
use Rattle.count_eval.specs.Vocabulary.{cell_of}
use Rattle.count_answers.specs.Vocabulary.{level_text}
use Rattle.count_json.specs.Vocabulary.{cell_json}
use Rattle.answer_json.specs.Vocabulary.{array_of, object_of, text_json, vertex_json}
use Rattle.evaluate_command.specs.Vocabulary.{CellValue, bounds_numbers, exact_numbers, plain_of, quantity_members}
use Rattle.evaluate_command.specs.declared.answer.Valued.{Valued}
use Rattle.evaluate_command.specs.declared.answer.Values.{Values}
use Rattle.evaluate_command.specs.declared.answer.Values.TheVariants.{Exact, Bounds}
use Rattle.paired_values.specs.declared.axes.Axis.{Axis}

-- a name with the level of its vertex there
abbrev pub axis_json : (all : List (List ℕ)) → Table → (ℕ → ℕ) → Axis → Json
axis_json all t cell a = array_of (vertex_json all a.name ∷ text_json (level_text t a.vertex (cell a.name)) ∷ [])

-- names with their levels in a cell
abbrev pub axes_json : (all : List (List ℕ)) → Table → List Axis → (cell : List ℕ) → Json
axes_json all t axes cell = array_of (map (axis_json all t (cell_of cell)) axes)

-- vertices at their first levels
abbrev pub pinned_json : List (List ℕ) → Table → (pinned : ℕ) → Json
pinned_json names t pinned = cell_json names t (cell_of []) (members_below (has pinned) 64)

-- a cell with the quantity there, where its levels are these members
abbrev pub value_json : (is_exact : Bool) → (List ℕ → List (List ℕ × Json)) → CellValue → Json
value_json is_exact levels v = object_of (levels v.cell ++ quantity_members is_exact v.quantity)

-- cells with their quantities
abbrev pub cells_json : {Q : Type 0} → (Q → Pair) → (is_exact : Bool) → (List ℕ → List (List ℕ × Json)) → List (Valued Q) → List Json
cells_json numbers is_exact levels values = map (λ v. value_json is_exact levels (plain_of numbers v)) values

-- those of the values
abbrev pub values_json : (List ℕ → List (List ℕ × Json)) → Values → List Json
values_json levels (Exact values) = cells_json exact_numbers true levels values.items
values_json levels (Bounds values) = cells_json bounds_numbers false levels values.items
