use Rattle.std.proofs.Common.{◌≡◌, IfOk, sym, subst}
use Rattle.identify_command.specs.declared.answer.Answer.{Answer}
use Rattle.identify_command.specs.Telling.{identify_text}
use Rattle.identify_command.proofs.answer.AnswerTold.text.Goals as goal

pub returns-in-Joint : goal.returns-in-Joint
returns-in-Joint c =
    subst (λ (a : Answer). IfOk c.joint_text.result (λ v. v.items ≡ identify_text c.args.writing c.args.names.now a)) (sym c.in-Joint.is) c.joint_text.ensures
