use Rattle.mixed_graph.specs.Vocabulary.{graph_of}
use Rattle.prob_expr.specs.Vocabulary.{masks_of}
use Rattle.check_command.specs.Vocabulary.{certificate_refusal}
use Rattle.check_command.proofs.Replied.{replied}
use Rattle.steps_command.specs.Right.{IsForCertificate}
use Rattle.steps_command.specs.Telling.{steps_telling}
use Rattle.steps_command.proofs.reply.steps_reply.Goals as goal

pub returns : goal.returns
returns c =
    let seen = c.args.diagram.now.observed in
    let e = c.steps_answer-answer.ensures in
    let told = c.reply.ensures in
    replied steps_telling certificate_refusal
    (IsForCertificate (graph_of seen.graph) seen.names (masks_of c.args.experiments.now.items) c.args.certificate.now) c.args.format c.plain.result
    c.plain.ensures seen.names c.steps_answer-answer.result e.answer e.fault c.reply.result told.outcome told.told told.memory
