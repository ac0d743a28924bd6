use Rattle.mixed_graph.specs.Vocabulary.{graph_of}
use Rattle.treated_command.proofs.Sets.{target_of}
use Rattle.treated_command.proofs.reply.found.Goals as goal

pub treated_certificate-requires-clause-target : goal.treated_certificate-requires-clause-target
treated_certificate-requires-clause-target c =
    let s = c.args.asked.sets in
    target_of (graph_of c.args.g.now) s.x.bits s.y.bits s.given.bits c.requires.sets c.requires.before
