-- Words for the walk over cells, inside this crate.
use Rattle.std.specs.Prelude.{ℕ, ◌-◌, List, None, Option, Result}
use Rattle.mixed_graph.specs.Vocabulary.{has}
use Rattle.prob_expr.specs.Vocabulary.{Weights}
use Rattle.quantity.specs.Kinds.{Pair}
use Rattle.quantity.specs.Vocabulary.{Kind}
use Rattle.count_eval.specs.Vocabulary.{cell_of, each_cell, one_more}
use Rattle.count_eval.specs.Stops.{Stop}
use Rattle.factor_values.specs.Factors.{PlainFactors}
use Rattle.factor_values.specs.Outcomes.{product_outcome}

-- what there is so far of the sum at s, and the product at one more cell
abbrev pub cell_added : Kind → Weights → PlainFactors → (s t : ℕ → ℕ) → (ℕ → ℕ) → Option Pair → Result (Option Pair) Stop
cell_added k w e s t c = one_more k.add None 1 s (product_outcome k w e.factors c t)

-- what there is so far, and the product at all cells that differ from this one in the summed vertices from v on
abbrev pub cells_from : Kind → Weights → PlainFactors → (s t : ℕ → ℕ) → ℕ → List ℕ → Option Pair → Result (Option Pair) Stop
cells_from k w e s t v cell so_far = each_cell (has e.summed) w.size (w.vertices - v) v (cell_added k w e s t) (cell_of cell) so_far
