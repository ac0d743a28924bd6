use Rattle.std.proofs.Common.{List, All, sym, ap, subst, ◌∙◌}
use Rattle.table_cells.specs.Vocabulary.{first_cell}
use Rattle.evaluate_command.specs.Vocabulary.{plain_in}
use Rattle.paired_values.specs.Cells.{cells_at, IsAxis}
use Rattle.paired_values.specs.Readings.{paired_view}
use Rattle.paired_values.specs.Walking.{Appends, IsFaultAt}
use Rattle.paired_values.specs.declared.axes.Axis.{Axis}
use Rattle.paired_values.proofs.NameCells.{first_is_name_cell, varied_are}
use Rattle.paired_values.proofs.Printed.{all_appended}
use Rattle.paired_values.proofs.evaluating.values_in.Goals as goal

pub varied-requires-clause-few : goal.varied-requires-clause-few
varied-requires-clause-few g c = c.requires.few

pub varied-requires-clause-within : goal.varied-requires-clause-within
varied-requires-clause-within g c = c.requires.sets.x_within

pub push_cells-requires-clause-axes : goal.push_cells-requires-clause-axes
push_cells-requires-clause-axes g c =
    let s = c.args.effect.now.sets in let n = c.args.effect.now.n in
    subst (λ (axes : List Axis). All (IsAxis n s.x.bits) axes) (sym (c.deref.ensures.value ∙ c.in-Ok.ensures))
    (varied_are n s.x.bits s.y.bits s.given.bits c.requires.sets)

pub push_cells-requires-clause-cell : goal.push_cells-requires-clause-cell
push_cells-requires-clause-cell g c = first_is_name_cell c.args.effect.now.n c.args.effect.now.sets.x.bits c.args.counts.now

pub returns-in-Ok-push_cells-clause-values : goal.returns-in-Ok-push_cells-clause-values
returns-in-Ok-push_cells-clause-values g c =
    let e = paired_view c.args.effect.now in let t = c.args.counts.now in let numbers = g.Q.Quantity.numbers in
    let all = c.deref.ensures.value ∙ c.in-Ok.ensures in
    all_appended g.Q.Quantity.kind g.Q.Difference.difference e t _ (plain_in numbers c.new-values.result.items) (plain_in numbers c.push_cells.new.out.items)
    (ap (plain_in numbers) c.new-values.ensures.items)
    (subst (λ (axes : List Axis). Appends g.Q.Quantity.kind g.Q.Difference.difference e t (cells_at t (first_cell 64) axes)
    (plain_in numbers c.new-values.result.items) (plain_in numbers c.push_cells.new.out.items)) all c.in-Ok-push_cells.ensures.values)

pub returns-clause-fault : goal.returns-clause-fault
returns-clause-fault g c = λ kept.
    let e = paired_view c.args.effect.now in let t = c.args.counts.now in
    subst (λ (axes : List Axis). IsFaultAt g.Q.Quantity.kind g.Q.Difference.difference e t (cells_at t (first_cell 64) axes) c.in-Err.fault)
    (c.deref.ensures.value ∙ c.in-Ok.ensures) (c.in-Err.ensures.fault kept)
