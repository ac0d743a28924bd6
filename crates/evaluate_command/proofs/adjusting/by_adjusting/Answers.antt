use Rattle.std.proofs.Common.{Some}
use Rattle.mixed_graph.specs.Vocabulary.{texts}
use Rattle.targets.proofs.Effects.{query_exposure, query_outcome}
use Rattle.diagram.specs.Vocabulary.{lent, query_lists}
use Rattle.adjust_command.proofs.Lists.{three_sets}
use Rattle.evaluate_command.specs.Ways.{by_adjusting, criterion_query}
use Rattle.evaluate_command.proofs.Unmet.{listed_fault}
use Rattle.evaluate_command.proofs.adjusting.by_adjusting.Goals as goal

pub find_adjusted-requires-clause-sets : goal.find_adjusted-requires-clause-sets
find_adjusted-requires-clause-sets c = three_sets _ c.args.diagram.now.observed.graph.n c.in-Ok.sets.x.bits c.in-Ok.sets.y.bits c.in-Ok.sets.given.bits
    c.args.diagram.now.observed.sized c.in-Ok.ensures.sets

pub find_adjusted-requires-clause-some_x : goal.find_adjusted-requires-clause-some_x
find_adjusted-requires-clause-some_x c = query_exposure _ c.in-Ok.sets.x.bits c.in-Ok.sets.y.bits c.in-Ok.sets.given.bits c.in-Ok.ensures.sets

pub find_adjusted-requires-clause-some_y : goal.find_adjusted-requires-clause-some_y
find_adjusted-requires-clause-some_y c = query_outcome _ c.in-Ok.sets.x.bits c.in-Ok.sets.y.bits c.in-Ok.sets.given.bits c.in-Ok.ensures.sets

pub returns-in-Ok : goal.returns-in-Ok
returns-in-Ok c =
    let x = lent c.args.x in let y = lent c.args.y in let set = texts c.args.set.now in
    c.or_memory.ensures (by_adjusting c.args.by_back_door set) c.args.diagram.now x y (c.find_adjusted.ensures x y set c.in-Ok.ensures.sets)

pub returns-in-Err : goal.returns-in-Err
returns-in-Err c =
    let d = c.args.diagram.now in let set = texts c.args.set.now in
    listed_fault (criterion_query c.args.by_back_door set) (query_lists d.read d.observed.names (lent c.args.x) (lent c.args.y) (Some set)) c.in-Err.fault
    c.in-Err.ensures.fault
