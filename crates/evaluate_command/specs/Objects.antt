-- The members of the object of an effect's values.
use Rattle.std.specs.Prelude.{ℕ, Bool, true, false, List, [], ◌∷◌, ◌++◌, Option, map, codes}
use Rattle.json.specs.Json.{Json, string, boolean}
use Rattle.mixed_graph.specs.Vocabulary.{has, members_below}
use Rattle.prob_expr.specs.Vocabulary.{PlainTarget}
use Rattle.quantity.specs.Kinds.{Pair}
use Rattle.quantity.specs.Vocabulary.{ratio_text, units_text}
use Rattle.count_rows.specs.Vocabulary.{Table}
use Rattle.count_eval.specs.Vocabulary.{cell_of}
use Rattle.answer_json.specs.Vocabulary.{array_of, object_of, set_json}
use Rattle.count_json.specs.Vocabulary.{cell_json}
use Rattle.implications.specs.declared.pairs.Implication.{Implication}
use Rattle.implications_command.specs.Vocabulary.{broken_members}
use Rattle.evaluate_command.specs.Cells.{CellValue}
use Rattle.evaluate_command.specs.Listed.{plain_of}
use Rattle.evaluate_command.specs.declared.answer.Valued.{Valued}

-- an exact fraction, or else two bounds, as texts
abbrev pub quantity_members : (is_exact : Bool) → Pair → List (List ℕ × Json)
quantity_members true q = (codes "value", string (ratio_text q)) ∷ []
quantity_members false q = (codes "from", string (units_text q.first)) ∷ (codes "to", string (units_text q.second)) ∷ []

-- the levels of a set in a cell
abbrev pub levels_json : List (List ℕ) → Table → (cell : List ℕ) → (set : ℕ) → Json
levels_json names t cell set = cell_json names t (cell_of cell) (members_below (has set) 64)

-- the levels of y, of x and of what is given in a cell
abbrev pub cell_members : List (List ℕ) → PlainTarget → Table → (cell : List ℕ) → List (List ℕ × Json)
cell_members names e t cell = (codes "y", levels_json names t cell e.y) ∷ (codes "x", levels_json names t cell e.x)
    ∷ (codes "given", levels_json names t cell e.given) ∷ []

-- a cell with the quantity there
abbrev pub value_json : (is_exact : Bool) → List (List ℕ) → PlainTarget → Table → CellValue → Json
value_json is_exact names e t v = object_of (cell_members names e t v.cell ++ quantity_members is_exact v.quantity)

-- cells with their quantities
abbrev pub cells_json : {Q : Type 0} → (Q → Pair) → (is_exact : Bool) → List (List ℕ) → PlainTarget → Table → List (Valued Q) → List Json
cells_json numbers is_exact names e t values = map (λ v. value_json is_exact names e t (plain_of numbers v)) values

-- what stands before the cells: whether the values are exact, the effect, and what is pinned, at its first levels
abbrev pub effect_members : (is_exact : Bool) → List (List ℕ) → PlainTarget → Table → (pinned : ℕ) → List (List ℕ × Json)
effect_members is_exact names e t pinned =
    (codes "answer", string (codes "values")) ∷ (codes "exact", boolean is_exact) ∷ (codes "y", set_json names e.y) ∷ (codes "x", set_json names e.x)
    ∷ (codes "given", set_json names e.given) ∷ (codes "pinned", levels_json names t [] pinned) ∷ []

-- the values of an effect, and the pair by which no model has the counts, where there is one
abbrev pub values_members : {Q : Type 0} → (Q → Pair) → (is_exact : Bool) → List (List ℕ) → PlainTarget → Table → (pinned : ℕ) → List (Valued Q)
    → (broken : Option Implication) → List (List ℕ × Json)
values_members numbers is_exact names e t pinned values broken =
    effect_members is_exact names e t pinned ++ (codes "cells", array_of (cells_json numbers is_exact names e t values)) ∷ broken_members names broken
