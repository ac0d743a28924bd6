use Rattle.std.proofs.Common.{IfOk, subst}
use Rattle.told.specs.declared.form.Form.{Form}
use Rattle.told.specs.Vocabulary.{target_refusal, Tells}
use Rattle.replies.specs.Vocabulary.{told_of}
use Rattle.evaluate_command.specs.Telling.{evaluate_telling}
use Rattle.evaluate_command.specs.First.{IsForDiagram}
use Rattle.evaluate_command.proofs.Replied.{first_told}
use Rattle.evaluate_command.proofs.first.first_reply.Goals as goal

pub returns : goal.returns
returns c = λ way x y is.
    let d = c.args.diagram.now in
    subst (λ (form : Form). IfOk c.reply.result (λ r. Tells evaluate_telling target_refusal (IsForDiagram way d x y) form d.observed.names r.outcome (told_of r)))
    c.plain.ensures
    (first_told c.plain.result way d x y c.args.answer.now is d.observed.names c.reply.result
    c.reply.ensures.outcome c.reply.ensures.told c.reply.ensures.memory)
