-- The cells of an effect over counts, and the quantities there.
use Rattle.std.specs.Prelude.{ℕ, List, [], ◌∷◌, ◌++◌, Result, Ok}
use Rattle.mixed_graph.specs.Vocabulary.{has, members_below}
use Rattle.quantity.specs.Kinds.{Pair}
use Rattle.count_eval.specs.Rules.{Rule}
use Rattle.count_rows.specs.Vocabulary.{Table}
use Rattle.count_eval.specs.Vocabulary.{formula_value, weights_in, cell_of, after}
use Rattle.count_eval.specs.Stops.{Stop}
use Rattle.table_cells.specs.Vocabulary.{cells_along, first_cell}
use Rattle.evaluate_command.specs.Effects.{PlainEffect}

-- the members of x, then those of what is given, then those of y, each in index order
abbrev pub varied : (x given y : ℕ) → List ℕ
varied x given y = members_below (has x) 64 ++ (members_below (has given) 64 ++ members_below (has y) 64)

-- the printed cells: all levels of x, of what is given and of y, and the first level of each other vertex
abbrev pub printed_cells : PlainEffect → Table → List (List ℕ)
printed_cells e t = cells_along t (first_cell e.graph.vertices) (varied e.x e.given e.y)

-- the value of the formula at a cell, by a rule in a kind of quantity
abbrev pub value_in : Rule → PlainEffect → Table → List ℕ → Result Pair Stop
value_in rule e t cell = formula_value rule (weights_in e.graph.vertices t) e.formula (cell_of cell)

-- a cell with the quantity there
pub record CellValue : Type 0 where
  pub cell : List ℕ
  pub quantity : Pair

-- the cells in order, each with its quantity; or why the first that has none has none
abbrev pub values_at : (List ℕ → Result Pair Stop) → List (List ℕ) → Result (List CellValue) Stop
values_at value [] = Ok []
values_at value (cell ∷ cells) = after (value cell) (λ q. after (values_at value cells) (λ values. Ok (record { cell = cell; quantity = q } ∷ values)))
