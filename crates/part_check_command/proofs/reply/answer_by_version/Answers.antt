use Rattle.std.proofs.Common.{rules}
use Rattle.mixed_graph.specs.Vocabulary.{graph_of}
use Rattle.part_check_command.proofs.Deciding.{other_version, whole_fault}
use Rattle.part_check_command.proofs.reply.answer_by_version.Goals as goal

pub answer_in_parts-requires-clause-version : goal.answer_in_parts-requires-clause-version
answer_in_parts-requires-clause-version c = other_version c.args.seen.now.names c.args.certificate.now c.args.fault c.requires.unread (search rules)

pub returns-clause-fault : goal.returns-clause-fault
returns-clause-fault c =
    whole_fault (graph_of c.args.seen.now.graph) c.args.seen.now.names c.args.certificate.now c.args.fault c.requires.unread (search rules)
