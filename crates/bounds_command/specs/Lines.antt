-- The lines that `bounds` prints.
use Rattle.std.specs.Prelude.{ℕ, List, [], ◌∷◌, ◌++◌, codes, decimal, if◌then◌else◌}
use Rattle.mixed_graph.specs.Vocabulary.{has, members_below, is_empty}
use Rattle.quantity.specs.Vocabulary.{units_text}
use Rattle.count_rows.specs.Vocabulary.{Table}
use Rattle.count_eval.specs.Vocabulary.{cell_of}
use Rattle.count_answers.specs.Vocabulary.{assignments}
use Rattle.bound_values.specs.declared.questions.Question.{Question}
use Rattle.bound_values.specs.declared.values.Value.{Value}
use Rattle.bound_values.specs.declared.values.Value.TheVariants.{Fraction, Units}
use Rattle.bound_values.specs.declared.values.CellBounds.{CellBounds}
use Rattle.bound_values.specs.declared.found.CellCrossing.{CellCrossing}
use Rattle.bound_values.specs.Vocabulary.{fixed_mask}

-- `3/5`
abbrev pub ratio_text : ℕ → ℕ → List ℕ
ratio_text p q = decimal p ++ (codes "/" ++ decimal q)

-- an end of a bound: a fraction, or units of 10^-18
abbrev pub value_text : Value → List ℕ
value_text (Fraction p q) = ratio_text p q
value_text (Units n) = units_text n

-- what is given, behind a comma: nothing where nothing is given
abbrev pub given_text : List (List ℕ) → Table → ℕ → (ℕ → ℕ) → List ℕ
given_text names t given cell = if is_empty given then [] else 44 ∷ assignments names t cell (members_below (has given) 64)

-- the effect at a cell: `P(Y=level|do(X=level),Z=level)`
abbrev pub effect_text : List (List ℕ) → Table → Question → (given : ℕ) → (ℕ → ℕ) → List ℕ
effect_text names t q given cell = codes "P(" ++ (assignments names t cell (members_below (has q.y.bits) 64)
    ++ (codes "|do(" ++ (assignments names t cell (members_below (has q.x.bits) 64) ++ (codes ")" ++ (given_text names t given cell ++ codes ")")))))

-- ` at least 3/5, at most 7/10`
abbrev pub ends_text : (low high : List ℕ) → List ℕ
ends_text low high = codes " at least " ++ (low ++ (codes ", at most " ++ (high ++ codes "\n")))

-- the line of a cell
unfoldable pub bounds_line : List (List ℕ) → Table → Question → CellBounds → List ℕ
bounds_line names t q b = effect_text names t q q.given.bits (cell_of b.cell) ++ ends_text (value_text b.at_least) (value_text b.at_most)

-- the lines of a crossing: that no model has the counts, and the bounds that cross, given what the stratum fixes
abbrev pub crossing_lines : List (List ℕ) → Table → Question → CellCrossing → List ℕ
crossing_lines names t q c = codes "no model of this diagram has these counts\n" ++ (effect_text names t q (fixed_mask q) (cell_of c.cell)
    ++ ends_text (ratio_text c.crossing.lower.top c.crossing.lower.bottom) (ratio_text c.crossing.upper.top c.crossing.upper.bottom))
