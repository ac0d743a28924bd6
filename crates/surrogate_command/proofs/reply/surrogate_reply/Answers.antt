use Rattle.std.proofs.Common.{IfOk, subst}
use Rattle.told.specs.declared.form.Form.{Form as ToldForm}
use Rattle.told.specs.Vocabulary.{target_refusal, Tells}
use Rattle.replies.specs.Vocabulary.{told_of}
use Rattle.surrogate_command.specs.Forms.{wants_common}
use Rattle.surrogate_command.specs.Requests.{request_of}
use Rattle.surrogate_command.specs.Right.{IsSurrogateAnswer}
use Rattle.surrogate_command.specs.Telling.{surrogate_telling}
use Rattle.surrogate_command.proofs.Replied.{replied}
use Rattle.surrogate_command.proofs.reply.surrogate_reply.Goals as goal

pub returns : goal.returns
returns c =
    let q = request_of c.args.asked.now in
    let d = c.args.diagram.now in
    let right = IsSurrogateAnswer (wants_common q.form.writing) d q.x q.y q.experiments in
    let e = c.surrogate_answer-answer.ensures in
    subst (λ (form : ToldForm). IfOk c.reply.result (λ r. Tells surrogate_telling target_refusal right form d.observed.names r.outcome (told_of r)))
    c.told.ensures
    (replied right c.told.result d.observed.names c.surrogate_answer-answer.result e.answer e.fault c.reply.result
    c.reply.ensures.outcome c.reply.ensures.told c.reply.ensures.memory)
