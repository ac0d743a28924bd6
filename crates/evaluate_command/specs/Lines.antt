-- The lines that `evaluate` prints.
use Rattle.std.specs.Prelude.{ℕ, List, [], ◌∷◌, ◌++◌, codes, Bool, true, false, if◌then◌else◌, Option, Some, None}
use Rattle.std.specs.List.{flat_map}
use Rattle.mixed_graph.specs.Vocabulary.{has, members_below, is_empty}
use Rattle.prob_expr.specs.Vocabulary.{PlainTarget}
use Rattle.quantity.specs.Kinds.{Pair}
use Rattle.quantity.specs.Vocabulary.{Kind}
use Rattle.count_rows.specs.Vocabulary.{Table}
use Rattle.count_eval.specs.Vocabulary.{cell_of}
use Rattle.count_answers.specs.Vocabulary.{assignment, assignments}
use Rattle.implications.specs.declared.pairs.Implication.{Implication}
use Rattle.implications_command.specs.Vocabulary.{pair_line}
use Rattle.evaluate_command.specs.Cells.{CellValue}
use Rattle.evaluate_command.specs.Listed.{plain_of}
use Rattle.evaluate_command.specs.declared.answer.Valued.{Valued}

-- what is done: nothing where x is empty
abbrev pub doing_text : List (List ℕ) → PlainTarget → Table → (ℕ → ℕ) → List ℕ
doing_text names e t cell = if is_empty e.x then [] else codes "|do(" ++ (assignments names t cell (members_below (has e.x) 64) ++ codes ")")

-- what is given, behind a bar where x is empty, else behind a comma: nothing where nothing is given
abbrev pub given_text : List (List ℕ) → PlainTarget → Table → (ℕ → ℕ) → List ℕ
given_text names e t cell =
    if is_empty e.given then [] else (if is_empty e.x then 124 else 44) ∷ assignments names t cell (members_below (has e.given) 64)

-- the effect at a cell: `P(Y=level|do(X=level),Z=level)`, or `P(Y=level|do(X=level))` where nothing is given, or `P(Y=level)` where x is empty too
abbrev pub effect_text : List (List ℕ) → PlainTarget → Table → (ℕ → ℕ) → List ℕ
effect_text names e t cell = codes "P("
    ++ (assignments names t cell (members_below (has e.y) 64) ++ (doing_text names e t cell ++ (given_text names e t cell ++ codes ")")))

-- what stands between an effect and its value: ` = ` before a fraction, a space before bounds
abbrev pub sign_of : Bool → List ℕ
sign_of true = codes " = "
sign_of false = codes " "

-- the line of a cell
abbrev pub value_line : Kind → List ℕ → List (List ℕ) → PlainTarget → Table → CellValue → List ℕ
value_line kind sign names e t v = effect_text names e t (cell_of v.cell) ++ (sign ++ (kind.text v.quantity ++ codes "\n"))

-- the lines of cells with their quantities
abbrev pub cells_text : {Q : Type 0} → (Q → Pair) → Kind → (is_exact : Bool) → List (List ℕ) → PlainTarget → Table → List (Valued Q) → List ℕ
cells_text numbers kind is_exact names e t values = flat_map (λ v. value_line kind (sign_of is_exact) names e t (plain_of numbers v)) values

-- `pinned Z=level`: a vertex at its first level
abbrev pub pinned_line : List (List ℕ) → Table → ℕ → List ℕ
pinned_line names t v = codes "pinned " ++ (assignment names t (λ u. 0) v ++ codes "\n")

-- the lines of vertices at their first levels, in index order
abbrev pub pinned_lines : List (List ℕ) → Table → (pinned : ℕ) → List ℕ
pinned_lines names t pinned = flat_map (pinned_line names t) (members_below (has pinned) 64)

-- `no model of the diagram has these counts: A from C given {B}`, where there is such a pair
abbrev pub broken_line : List (List ℕ) → Option Implication → List ℕ
broken_line names None = []
broken_line names (Some i) = codes "no model of the diagram has these counts: " ++ pair_line names i
