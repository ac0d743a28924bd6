use Rattle.std.proofs.Common.{◌≡◌, OnOk, sym, subst}
use Rattle.answer_json.specs.Vocabulary.{with_members}
use Rattle.evaluate_command.specs.declared.answer.Answer.{Answer}
use Rattle.evaluate_command.specs.Telling.{answer_members}
use Rattle.evaluate_command.proofs.answer.AnswerTold.push_members.Goals as goal

pub returns-in-Joint : goal.returns-in-Joint
returns-in-Joint c =
    subst (λ (a : Answer). OnOk c.push_joint.result (c.push_joint.new.object ≡ with_members (answer_members c.args.writing c.args.names.now a)
    c.args.object.now)) (sym c.in-Joint.is) c.push_joint.ensures
