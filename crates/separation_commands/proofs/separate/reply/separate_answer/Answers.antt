use Rattle.separation_commands.proofs.SeparateSets.{three_sets}
use Rattle.separation_commands.proofs.separate.reply.separate_answer.Goals as goal

pub decide-requires : goal.decide-requires
decide-requires c = three_sets _ c.args.diagram.now.observed.graph.n c.in_ok-sets.sets.x.bits c.in_ok-sets.sets.y.bits c.in_ok-sets.sets.given.bits
    c.args.diagram.now.observed.sized c.in_ok-sets.ensures.sets
