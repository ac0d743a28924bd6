-- Tables of the values of definitions.
use Rattle.std.specs.Prelude.{ℕ, ◌≡◌, ◌<◌, ◌≤◌, ◌+◌, ◌^◌, List, [], length, get_or, sum_by, Option, Some, None, Ok}
use Rattle.mixed_graph.specs.Vocabulary.{has, members_below}
use Rattle.prob_expr.specs.Tree.{Tree}
use Rattle.prob_expr.specs.Vocabulary.{PlainFormula, free_in_defs}
use Rattle.quantity.specs.Kinds.{Pair}
use Rattle.count_eval.specs.Rules.{Rule}
use Rattle.count_rows.specs.Vocabulary.{Table}
use Rattle.count_table.specs.Vocabulary.{IsCell, AreCounts, axes_of, cell_at, place_at, cells_over, Margins, cells_in}
use Rattle.count_eval.specs.Answers.{IsEvaluable}
use Rattle.count_eval.specs.Programs.{weights_in, known}
use Rattle.count_table.specs.Axes.{Axes}
use Rattle.count_eval.specs.declared.tables.table.DefinitionTable.{DefinitionTable}

-- The table of definition k is over its free variables, and an entry at a cell of these is the definition's value at each assignment
-- with that cell. Where there is none, nothing is said.
pub record IsTableOf {Q : Type 0} (numbers : Q → Pair) (rule : Rule) (n : ℕ) (t : Table) (ds : List Tree) (k : ℕ) (axes : Axes)
    (values : List (Option Q)) : Type 0 where
  pub over : axes ≡ axes_of t (has (get_or (free_in_defs [] ds) k 0))
  pub right : (at : ℕ → ℕ) → IsCell axes.sizes (cell_at axes at) → (q : Q) → get_or values (place_at axes at) None ≡ Some q
      → known rule (weights_in n t) ds (length ds) k at ≡ Ok (numbers q)

-- tables of the first definitions
abbrev pub AreTables : {Q : Type 0} → (Q → Pair) → Rule → ℕ → Table → List Tree → List (DefinitionTable Q) → Type 0
AreTables {Q} numbers rule n t ds tables = (k : ℕ) (x : DefinitionTable Q) → k < length tables → x ≡ get_or tables k x
    → IsTableOf numbers rule n t ds k x.places x.values.items

-- what is kept with sums of a table of counts and with the tables of a formula's first definitions
pub record AreKeptTables {Q : Type 0} (numbers : Q → Pair) (rule : Rule) (n : ℕ) (t : Table) (f : PlainFormula) (summed : Table)
    (tables : List (DefinitionTable Q)) : Type 0 where
  pub evaluable : IsEvaluable n t f
  pub counts : AreCounts t
  pub sums : summed ≡ t
  pub right : AreTables numbers rule n t f.defs tables

-- how many cells tables of definitions have together
abbrev pub cells_of : {Q : Type 0} → List (DefinitionTable Q) → ℕ
cells_of tables = sum_by (λ x. cells_over x.places) tables

-- Tables of sums and of definitions, and the set of the used vertices. All tables together have at most 2^22 cells.
pub record IsPrepared {Q : Type 0} (numbers : Q → Pair) (rule : Rule) (n : ℕ) (t : Table) (f : PlainFormula) (used : ℕ) (sums : Margins)
    (tables : List (DefinitionTable Q)) : Type 0 where
  pub members : members_below (has used) 64 ≡ t.vertices
  pub kept : AreKeptTables numbers rule n t f sums.table tables
  pub few : cells_in sums + cells_of tables ≤ 2 ^ 22
