-- The lines of values: one for each cell.
use Rattle.std.specs.Prelude.{ℕ, List, ◌++◌, codes, Bool, true, false}
use Rattle.std.specs.List.{flat_map}
use Rattle.mixed_graph.specs.Vocabulary.{name_of}
use Rattle.answer_text.specs.Vocabulary.{printed}
use Rattle.quantity.specs.Exacts.{exact}
use Rattle.quantity.specs.Intervals.{bounds}
use Rattle.quantity.specs.Kinds.{Pair}
use Rattle.quantity.specs.Vocabulary.{Kind}
use Rattle.count_rows.specs.Vocabulary.{Table}
use Rattle.count_eval.specs.Vocabulary.{cell_of}
use Rattle.count_answers.specs.Vocabulary.{level_text, printed_level}
use Rattle.evaluate_command.specs.Vocabulary.{CellValue, bounds_numbers, exact_numbers, plain_of, sign_of}
use Rattle.evaluate_command.specs.declared.answer.Valued.{Valued}
use Rattle.evaluate_command.specs.declared.answer.Values.{Values}
use Rattle.evaluate_command.specs.declared.answer.Values.TheVariants.{Exact, Bounds}
use Rattle.paired_values.specs.declared.axes.Axis.{Axis}

-- `,X'=level`: a name with the level of its vertex there
abbrev pub axis_text : (all : List (List ℕ)) → Table → (ℕ → ℕ) → Axis → List ℕ
axis_text all t cell a = codes "," ++ (printed (name_of all a.name) ++ (codes "=" ++ printed_level (level_text t a.vertex (cell a.name))))

-- the line of a cell, where the effect has this text at it
abbrev pub value_line : Kind → (is_exact : Bool) → ((ℕ → ℕ) → List ℕ) → CellValue → List ℕ
value_line kind is_exact effect v = effect (cell_of v.cell) ++ (sign_of is_exact ++ (kind.text v.quantity ++ codes "\n"))

-- the lines of cells with their quantities
abbrev pub cells_text : {Q : Type 0} → (Q → Pair) → Kind → (is_exact : Bool) → ((ℕ → ℕ) → List ℕ) → List (Valued Q) → List ℕ
cells_text numbers kind is_exact effect values = flat_map (λ v. value_line kind is_exact effect (plain_of numbers v)) values

-- those of the values
abbrev pub values_text : ((ℕ → ℕ) → List ℕ) → Values → List ℕ
values_text effect (Exact values) = cells_text exact_numbers exact true effect values.items
values_text effect (Bounds values) = cells_text bounds_numbers bounds false effect values.items
