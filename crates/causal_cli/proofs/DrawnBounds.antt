-- What bounds say of the diagram as drawn.
use Rattle.std.proofs.Common.{ℕ, Bool, List, Option, sym, subst}
use Rattle.std.proofs.lemmas.List.Elements.{All-weaker}
use Rattle.mixed_graph.specs.Vocabulary.{has, graph_of}
use Rattle.count_rows.specs.Vocabulary.{Field, Table}
use Rattle.count_table.specs.Vocabulary.{total}
use Rattle.count_eval.specs.Vocabulary.{weights_in, is_used, cell_of}
use Rattle.diagram.specs.declared.diagram.Diagram.{Diagram}
use Rattle.diagram.proofs.ObservedParts.{part_of}
use Rattle.natural_bounds.specs.declared.ends.End.{End}
use Rattle.natural_bounds.specs.declared.ends.End.TheVariants.{AtLeast, AtMost}
use Rattle.natural_bounds.proofs.Drawn.{bounding_is_as_drawn, no_model_is_as_drawn}
use Rattle.bound_values.specs.declared.questions.Question.{Question}
use Rattle.bound_values.specs.declared.values.Value.{Value}
use Rattle.bound_values.specs.declared.found.Found.TheVariants.{Crossed, Bounded}
use Rattle.bound_values.specs.Vocabulary.{number_of}
use Rattle.bound_values.specs.declared.found.Found.{Found}
use Rattle.bounds_command.specs.declared.answer.Answer.{Answer}
use Rattle.bounds_command.specs.Vocabulary.{EndHolds, Encloses, HoldsInModels, IsForCounts}
use Rattle.causal_cli.specs.AsDrawn.{EndHoldsAsDrawn, EnclosesAsDrawn, IsFoundAsDrawn, IsBoundedAsDrawn}

module _ (d : Diagram) (q : Question) (t : Table) where
  end_as_drawn : (end : End) (cell : List ℕ) (v : Value) → EndHolds end (graph_of d.observed.graph) q t cell v → EndHoldsAsDrawn end d q t cell v
  end_as_drawn end cell v h = bounding_is_as_drawn end (graph_of d.read.graph) d.read.graph.valid (has d.read.latent.bits) (graph_of d.observed.graph)
      (part_of d).graph (has q.x.bits) (has q.y.bits) (has q.given.bits) (is_used t) (weights_in d.observed.graph.n t) (total t.rows) (cell_of cell)
      (number_of v) h

  found_as_drawn : (f : Found) → HoldsInModels (graph_of d.observed.graph) q t f → IsFoundAsDrawn d q t f
  found_as_drawn (Bounded bounds) h = All-weaker (Encloses (graph_of d.observed.graph) q t) (EnclosesAsDrawn d q t)
      (λ b e. record { at_least = end_as_drawn AtLeast b.cell b.at_least e.at_least; at_most = end_as_drawn AtMost b.cell b.at_most e.at_most })
      bounds.items h
  found_as_drawn (Crossed c) h = no_model_is_as_drawn (graph_of d.read.graph) d.read.graph.valid (has d.read.latent.bits) (graph_of d.observed.graph)
      (part_of d).graph (is_used t) (weights_in d.observed.graph.n t) (total t.rows) h

-- a right answer of `bounds` over counts
pub bounds_drawn : (is_exact : Bool) (d : Diagram) (q : Question) (count : Option Field) (other : List ℕ) (a : Answer)
    → IsForCounts is_exact (graph_of d.observed.graph) d.observed.names q count other a → IsBoundedAsDrawn d q a
bounds_drawn is_exact d q count other a h = subst (λ (t : Table). IsFoundAsDrawn d q t a.found) (sym h.answer.table)
    (found_as_drawn d q h.table a.found h.answer.models)
