use Rattle.evaluate_command.specs.Listed.{plain_in}
use Rattle.count_eval.specs.Rules.{rule}
use Rattle.evaluate_command.proofs.Printed.{appends_one}
use Rattle.evaluate_command.proofs.cells.push_cell.Goals as goal

pub returns-in-Ok-push_valued-clause-values : goal.returns-in-Ok-push_valued-clause-values
returns-in-Ok-push_valued-clause-values g c =
    let p = c.args.prepared.now in let numbers = g.Q.Quantity.numbers in
    appends_one (rule g.Q.Quantity.kind p.zero) g.Q.Quantity.covers p c.args.cell.now (numbers c.in-Ok.quantity)
    (plain_in numbers c.args.out.now.items) (plain_in numbers c.push_valued.new.out.items)
    c.in-Ok.ensures.value c.in-Ok.ensures.counts c.in-Ok.ensures.zeros c.requires c.in-Ok.ensures.matches c.in-Ok-push_valued.ensures
