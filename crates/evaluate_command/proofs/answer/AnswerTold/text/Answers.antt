use Rattle.std.proofs.Common.{◌≡◌, IfOk, sym, subst}
use Rattle.evaluate_command.specs.declared.answer.Answer.{Answer}
use Rattle.evaluate_command.specs.Telling.{answer_text}
use Rattle.evaluate_command.proofs.answer.AnswerTold.text.Goals as goal

pub returns-in-Joint : goal.returns-in-Joint
returns-in-Joint c =
    subst (λ (a : Answer). IfOk c.joint_text.result (λ v. v.items ≡ answer_text c.args.writing c.args.names.now a)) (sym c.in-Joint.is) c.joint_text.ensures
