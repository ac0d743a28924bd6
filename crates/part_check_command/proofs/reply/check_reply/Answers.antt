use Rattle.mixed_graph.specs.Vocabulary.{graph_of}
use Rattle.prob_expr.specs.Vocabulary.{masks_of}
use Rattle.check_command.proofs.Replied.{replied}
use Rattle.part_check_command.specs.Faults.{part_check_refusal}
use Rattle.part_check_command.specs.Right.{IsForCertificate}
use Rattle.part_check_command.specs.Telling.{part_check_telling}
use Rattle.part_check_command.proofs.reply.check_reply.Goals as goal

pub returns : goal.returns
returns c =
    let seen = c.args.diagram.now.observed in
    let e = c.check_answer-answer.ensures in
    let told = c.reply.ensures in
    replied part_check_telling part_check_refusal
    (IsForCertificate (graph_of seen.graph) seen.names (masks_of c.args.experiments.now.items) c.args.certificate.now) c.args.format c.plain.result
    c.plain.ensures seen.names c.check_answer-answer.result e.answer e.fault c.reply.result told.outcome told.told told.memory
