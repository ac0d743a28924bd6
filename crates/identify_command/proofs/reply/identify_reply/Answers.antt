use Rattle.std.proofs.Common.{IfOk, subst}
use Rattle.told.specs.declared.form.Form.{Form as ToldForm}
use Rattle.told.specs.Vocabulary.{is_certified, target_refusal, Tells}
use Rattle.replies.specs.Vocabulary.{told_of}
use Rattle.identify_command.specs.Requests.{request_of}
use Rattle.identify_command.specs.Right.{IsIdentifyAnswer}
use Rattle.identify_command.specs.Telling.{identify_telling}
use Rattle.identify_command.proofs.Replied.{replied}
use Rattle.identify_command.proofs.reply.identify_reply.Goals as goal

pub returns : goal.returns
returns c =
    let q = request_of c.args.asked.now in
    let d = c.args.diagram.now in
    let right = IsIdentifyAnswer q.form.short (is_certified q.form.writing) d q.x q.y q.given in
    let e = c.identify_answer-answer.ensures in
    subst (λ (form : ToldForm). IfOk c.reply.result (λ r. Tells identify_telling target_refusal right form d.observed.names r.outcome (told_of r)))
    c.told.ensures
    (replied right c.told.result d.observed.names c.identify_answer-answer.result e.answer e.fault c.reply.result
    c.reply.ensures.outcome c.reply.ensures.told c.reply.ensures.memory)
