use Rattle.instruments_command.proofs.Sets.{three_sets}
use Rattle.instruments_command.proofs.reply.instruments_answer.Goals as goal

pub list-requires-clause-sets : goal.list-requires-clause-sets
list-requires-clause-sets c = three_sets _ c.args.diagram.now.observed.graph.n c.in_ok-sets.sets.x.bits c.in_ok-sets.sets.y.bits c.in_ok-sets.sets.given.bits
    c.args.diagram.now.observed.sized c.in_ok-sets.ensures.sets
