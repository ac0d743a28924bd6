use Rattle.mixed_graph.specs.Vocabulary.{texts}
use Rattle.targets.proofs.Effects.{listed_outcome}
use Rattle.diagram.specs.Vocabulary.{lent}
use Rattle.identify_command.proofs.Lists.{three_sets}
use Rattle.evaluate_command.specs.Ways.{by_condition}
use Rattle.evaluate_command.proofs.conditional.by_condition.Goals as goal

pub find_given-requires-clause-sets : goal.find_given-requires-clause-sets
find_given-requires-clause-sets c = three_sets _ c.args.diagram.now.observed.graph.n
    (record { x = c.in-Ok.sets.x.bits; y = c.in-Ok.sets.y.bits; given = c.in-Ok.sets.given.bits }) c.args.diagram.now.observed.sized c.in-Ok.ensures.sets

pub find_given-requires-clause-some : goal.find_given-requires-clause-some
find_given-requires-clause-some c = listed_outcome _ c.in-Ok.sets.x.bits c.in-Ok.sets.y.bits c.in-Ok.sets.given.bits c.in-Ok.ensures.sets

pub returns-in-Ok : goal.returns-in-Ok
returns-in-Ok c =
    let x = lent c.args.x in let y = lent c.args.y in let given = texts c.args.given.now in
    c.or_memory.ensures (by_condition c.args.short given) c.args.diagram.now x y (c.find_given.ensures x y given c.in-Ok.ensures.sets)
