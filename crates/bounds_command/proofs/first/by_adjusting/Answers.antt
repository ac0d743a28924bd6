use Rattle.std.proofs.Common.{Some}
use Rattle.mixed_graph.specs.Vocabulary.{texts}
use Rattle.diagram.specs.Vocabulary.{lent, query_lists}
use Rattle.adjust_command.proofs.Lists.{three_sets}
use Rattle.bounds_command.proofs.first.by_adjusting.Goals as goal

pub by_set-requires : goal.by_set-requires
by_set-requires c = three_sets _ c.args.diagram.now.observed.graph.n c.in-Ok.sets.x.bits c.in-Ok.sets.y.bits c.in-Ok.sets.given.bits
    c.args.diagram.now.observed.sized c.in-Ok.ensures.sets

pub returns-in-Ok : goal.returns-in-Ok
returns-in-Ok c = let d = c.args.diagram.now in
    c.by_set.ensures (query_lists d.read d.observed.names (lent c.args.x) (lent c.args.y) (Some (texts c.args.set.now))) c.in-Ok.ensures.sets

pub returns-in-Err : goal.returns-in-Err
returns-in-Err c = c.in-Err.ensures.fault
