-- Which answers of `bounds` are right over the bytes of counts.
use Rattle.std.specs.Prelude.{ℕ, ◌≡◌, ◌<◌, ◌≤◌, Bool, List, All, Option, Some, Result, Ok, Err, length}
use Rattle.mixed_graph.specs.Vocabulary.{has, members_below, MixedGraph, IsMixedGraph, Apart}
use Rattle.replies.specs.declared.format.Format.{Format}
use Rattle.replies.specs.declared.outcome.Outcome.{Outcome}
use Rattle.replies.specs.Told.{Told}
use Rattle.told.specs.Vocabulary.{plain_form, Tells}
use Rattle.count_rows.specs.Vocabulary.{Field, Table}
use Rattle.count_table.specs.Vocabulary.{total, text_fault}
use Rattle.count_eval.specs.Vocabulary.{weights_in, is_used, cell_of}
use Rattle.count_answers.specs.Vocabulary.{HoldsCounts}
use Rattle.natural_bounds.specs.declared.ends.End.{End}
use Rattle.natural_bounds.specs.declared.ends.End.TheVariants.{AtLeast, AtMost}
use Rattle.natural_bounds.specs.Vocabulary.{BoundsEffect, HasNoModel}
use Rattle.bound_values.specs.declared.questions.Question.{Question}
use Rattle.bound_values.specs.declared.values.Value.{Value}
use Rattle.bound_values.specs.declared.values.CellBounds.{CellBounds}
use Rattle.bound_values.specs.declared.found.Found.TheVariants.{Crossed, Bounded}
use Rattle.bound_values.specs.Vocabulary.{asked_of, joint_mask, MayBeUsed, over_table, number_of, IsFound, IsUnfound}
use Rattle.bound_values.specs.declared.values.CellFault.TheVariants as cell
use Rattle.bound_values.specs.declared.found.Found.{Found}
use Rattle.bounds_command.specs.declared.answer.Answer.{Answer}
use Rattle.bounds_command.specs.declared.faults.BoundsFault.{BoundsFault}
use Rattle.bounds_command.specs.declared.faults.BoundsFault.TheVariants.{TooLong, Counts, NoRecords, TooWide}
use Rattle.bounds_command.specs.BoundsTelling.{bounds_telling}
use Rattle.bounds_command.specs.Faults.{bounds_refusal}

-- ---- in models

-- the value bounds P(y | do(x), given) at the cell in every model of the graph that has the counts, positive or not
abbrev pub EndHolds : End → MixedGraph → Question → Table → (cell : List ℕ) → Value → Type 0
EndHolds end g q t cell v = BoundsEffect end g (has q.x.bits) (has q.y.bits) (has q.given.bits) (is_used t) (weights_in g.vertices t) (total t.rows)
    (cell_of cell) (number_of v)

-- both ends enclose it
pub record Encloses (g : MixedGraph) (q : Question) (t : Table) (b : CellBounds) : Type 0 where
  pub at_least : EndHolds AtLeast g q t b.cell b.at_least
  pub at_most : EndHolds AtMost g q t b.cell b.at_most

-- what is found says so of every model of the graph that has the counts: all bounds enclose the effect, or no model has them
abbrev pub HoldsInModels : MixedGraph → Question → Table → Found → Type 0
HoldsInModels g q t (Bounded bounds) = All (Encloses g q t) bounds.items
HoldsInModels g q t (Crossed c) = HasNoModel g (is_used t) (weights_in g.vertices t) (total t.rows)

-- ---- over a table

-- what is known of a question before counts are read: its method may be used where all vertices that are asked of are used
pub record IsKnown (g : MixedGraph) (names : List (List ℕ)) (q : Question) : Type 0 where
  pub graph : IsMixedGraph g
  pub few : g.vertices ≤ 64
  pub named : length names ≡ g.vertices
  pub may : MayBeUsed q.method g (has (joint_mask q)) (asked_of q)
  pub apart : Apart (has q.given.bits) (has q.strata.bits)
  pub some : 0 < q.x.bits

-- the table's vertices are those that are asked of
abbrev pub IsCounted : Question → Table → Type 0
IsCounted q t = t.vertices ≡ members_below (has (joint_mask q)) 64

-- the answer over a table: by pairs of levels in place of levels, where they are used
pub record IsOverTable (is_exact : Bool) (g : MixedGraph) (q : Question) (t : Table) (a : Answer) : Type 0 where
  pub table : a.counts ≡ t
  pub question : a.question ≡ q
  pub exact : a.exact ≡ is_exact
  pub found : IsFound is_exact g.vertices t (over_table t q) a.found
  pub models : HoldsInModels g q t a.found

-- there is none: what is given has no records at the first such printed cell, or a number is too wide
abbrev pub IsFaultOver : (is_exact : Bool) → MixedGraph → Question → Table → BoundsFault → Type 0
IsFaultOver is_exact g q t (NoRecords counts given at) = ((counts ≡ t) × (given ≡ q.given)) × IsUnfound is_exact g.vertices t (over_table t q) (cell.NoRecords at)
IsFaultOver is_exact g q t TooWide = IsUnfound is_exact g.vertices t (over_table t q) cell.TooWide
IsFaultOver is_exact g q t fault = ⊥

-- ---- over the bytes of counts

-- the answer over the table that the bytes hold
pub record IsForCounts (is_exact : Bool) (g : MixedGraph) (names : List (List ℕ)) (q : Question) (count : Option Field) (bytes : List ℕ) (a : Answer) : Type 0 where
  pub table : Table
  pub holds : HoldsCounts names (joint_mask q) count bytes table
  pub answer : IsOverTable is_exact g q table a

-- the fault: of the bytes, or over the table that they hold
abbrev pub IsFaultFor : (is_exact : Bool) → MixedGraph → (names : List (List ℕ)) → Question → Option Field → List ℕ → BoundsFault → Type 0
IsFaultFor is_exact g names q count bytes TooLong = 67108864 < length bytes
IsFaultFor is_exact g names q count bytes (Counts fault) = (length bytes ≤ 67108864) × (text_fault bytes names (joint_mask q) count ≡ Some fault)
IsFaultFor is_exact g names q count bytes fault = (t : Table) × HoldsCounts names (joint_mask q) count bytes t × IsFaultOver is_exact g q t fault

-- one of these
abbrev pub IsBounded : (is_exact : Bool) → MixedGraph → (names : List (List ℕ)) → Question → Option Field → List ℕ → Result Answer BoundsFault → Type 0
IsBounded is_exact g names q count bytes (Ok a) = IsForCounts is_exact g names q count bytes a
IsBounded is_exact g names q count bytes (Err fault) = IsFaultFor is_exact g names q count bytes fault

-- what is told of it
abbrev pub CountsAnswer : Format → (is_exact : Bool) → MixedGraph → (names : List (List ℕ)) → Question → Option Field → List ℕ → Outcome → Told → Type 0
CountsAnswer format is_exact g names q count bytes o told = Tells bounds_telling (bounds_refusal names) (IsBounded is_exact g names q count bytes)
    (plain_form format) names o told
