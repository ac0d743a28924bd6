use Rattle.std.proofs.Common.{◌∙◌, Ok, ap}
use Rattle.count_eval.specs.Programs.{seen_so_far}
use Rattle.evaluate_command.specs.Vocabulary.{plain_in}
use Rattle.paired_values.specs.Readings.{paired_view}
use Rattle.paired_values.specs.Values.{stopped, value_by}
use Rattle.paired_values.proofs.Printed.{appended_one, below_at, never_kept}
use Rattle.paired_values.proofs.Walks.{stops_one}
use Rattle.paired_values.proofs.cells.push_cell.Goals as goal

pub returns-in-Err-clause-fault : goal.returns-in-Err-clause-fault
returns-in-Err-clause-fault g c = λ kept.
    let h = c.in-Err.ensures in (
      stopped h.0,
      stops_one (value_by g.Q.Quantity.kind g.Q.Difference.difference (paired_view c.args.effect.now) c.args.counts.now) c.args.cell.now h.0 h.1,
      h.2,
    )

pub returns-in-None-clause-fault : goal.returns-in-None-clause-fault
returns-in-None-clause-fault g c = λ kept.
    below_at g.Q.Quantity.kind g.Q.Difference.difference (paired_view c.args.effect.now) c.args.counts.now c.args.cell.now
    (c.in-Ok.ensures ∙ ap (λ o. Ok (seen_so_far g.Q.Quantity.numbers o)) c.in-None.is) c.below.result (c.below.ensures kept)

pub returns-in-Some : goal.returns-in-Some
returns-in-Some g c = record {
  values = appended_one g.Q.Quantity.kind g.Q.Difference.difference (paired_view c.args.effect.now) c.args.counts.now c.args.cell.now
      (g.Q.Quantity.numbers c.in-Some.quantity) (plain_in g.Q.Quantity.numbers c.args.out.now.items)
      (plain_in g.Q.Quantity.numbers c.push_quantity.new.out.items) c.push_quantity.result
      (c.in-Ok.ensures ∙ ap (λ o. Ok (seen_so_far g.Q.Quantity.numbers o)) c.in-Some.is) c.push_quantity.ensures.values;
  fault = never_kept g.Q.Quantity.kind g.Q.Difference.difference (paired_view c.args.effect.now) c.args.counts.now c.args.cell.now c.push_quantity.result
      c.push_quantity.ensures.fault;
}
