use Rattle.std.proofs.Common.{Bool, IfOk, subst}
use Rattle.mixed_graph.specs.Vocabulary.{graph_of}
use Rattle.replies.specs.Vocabulary.{told_of}
use Rattle.told.specs.Vocabulary.{Tells}
use Rattle.natural_command.specs.Asking.{natural_lists}
use Rattle.natural_command.specs.Faults.{natural_refusal}
use Rattle.natural_command.specs.Requests.{request_of}
use Rattle.natural_command.specs.Right.{IsNaturalAnswer}
use Rattle.natural_command.specs.Telling.{natural_telling}
use Rattle.natural_command.proofs.Replying.{tells}
use Rattle.natural_command.proofs.reply.natural_reply.Goals as goal

pub returns : goal.returns
returns c =
    let q = request_of c.args.asked.now in let d = c.args.diagram.now in
    subst (λ (b : Bool). IfOk c.reply.result (λ r. Tells natural_telling natural_refusal (IsNaturalAnswer b d q.x q.y q.through q.given) q.form
    d.observed.names r.outcome (told_of r))) c.is_certified-certified.ensures
    (tells c.is_certified-certified.result (graph_of d.observed.graph) (natural_lists d q.x q.y q.through q.given) c.args.asked.now.form d.observed.names
    c.natural_answer-answer.result c.natural_answer-answer.ensures.answer c.natural_answer-answer.ensures.fault c.reply.result c.reply.ensures.outcome c.reply.ensures.told
    c.reply.ensures.memory)
