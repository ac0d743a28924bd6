use Rattle.std.proofs.Common.{◌<◌, length, sym, subst}
use Rattle.mixed_graph.specs.Vocabulary.{has, Within, graph_of}
use Rattle.bounds_command.proofs.InModels.{joint_some, joint_within}
use Rattle.bounds_command.proofs.deciding.answer_over.Goals as goal

pub read_counts-requires-clause-some : goal.read_counts-requires-clause-some
read_counts-requires-clause-some c = subst (λ m. 0 < m) (sym c.joint.ensures.mask)
    (joint_some (graph_of c.args.seen.now.graph) c.args.seen.now.names c.args.question c.requires.known)

pub read_counts-requires-clause-named : goal.read_counts-requires-clause-named
read_counts-requires-clause-named c = subst (λ m. Within (length c.args.seen.now.names) (has m)) (sym c.joint.ensures.mask)
    (joint_within (graph_of c.args.seen.now.graph) c.args.seen.now.names c.args.question c.requires.known)
