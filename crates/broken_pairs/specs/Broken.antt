-- Which of the pairs that a graph implies counts break: one of their cross differences isn't 0.
use Rattle.std.specs.Prelude.{ℕ, ℤ, pos, zero, ◌≡◌, ◌≢◌, Bool, true, false, List, ◌∷◌, ◌++◌, Option, Some, None, All}
use Rattle.mixed_graph.specs.Vocabulary.{MixedGraph, IsMixedGraph}
use Rattle.count_rows.specs.Vocabulary.{Table}
use Rattle.count_table.specs.Vocabulary.{cell_at, IsCell, total}
use Rattle.count_eval.specs.Vocabulary.{weights_in, is_used}
use Rattle.natural_bounds.specs.Vocabulary.{HasNoModel}
use Rattle.implications.specs.declared.pairs.Implication.{Implication}
use Rattle.implications.specs.Vocabulary.{IsImplication}
use Rattle.implied_differences.specs.Differences.{difference}
use Rattle.implied_differences.specs.Vocabulary.{IsReadable, axes_in}

-- a difference isn't 0
abbrev pub is_apart : ℤ → Bool
is_apart (pos zero) = false
is_apart z = true

-- the counts break the pair: they have levels of each of its vertices, and at a cell of these the difference isn't 0
pub record IsBroken (t : Table) (i : Implication) : Type 0 where
  pub readable : IsReadable t i
  pub cell : ℕ → ℕ
  pub levels : IsCell (axes_in t i).sizes (cell_at (axes_in t i) cell)
  pub apart : difference t i cell ≢ pos 0

-- the pair stands in the list, the counts break it, and they break none before it
pub record IsFirstOf (t : Table) (list : List Implication) (i : Implication) : Type 0 where
  pub before : List Implication
  pub after : List Implication
  pub stands : list ≡ before ++ i ∷ after
  pub broken : IsBroken t i
  pub unbroken : All (λ j. IsBroken t j → ⊥) before

-- the first pair of the list that the counts break, or that they break none
abbrev pub IsFirstBroken : Table → List Implication → Option Implication → Type 0
IsFirstBroken t list (Some i) = IsFirstOf t list i
IsFirstBroken t list None = All (λ j. IsBroken t j → ⊥) list

-- no model that fits a graph in which the pair is implied, positive or not, has the counts
abbrev pub Refutes : Table → Implication → Type 0
Refutes t i = (g : MixedGraph) → IsMixedGraph g → IsImplication g i → HasNoModel g (is_used t) (weights_in g.vertices t) (total t.rows)
