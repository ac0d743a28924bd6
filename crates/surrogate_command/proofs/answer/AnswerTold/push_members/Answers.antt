use Rattle.std.proofs.Common.{◌≡◌, sym, subst}
use Rattle.std.specs.Prelude.{OnOk}
use Rattle.answer_json.specs.Vocabulary.{with_members}
use Rattle.surrogate_command.specs.declared.answer.Answer.{Answer}
use Rattle.surrogate_command.specs.Telling.{surrogate_object}
use Rattle.surrogate_command.proofs.answer.AnswerTold.push_members.Goals as goal

pub returns-in-Formula : goal.returns-in-Formula
returns-in-Formula c = subst
    (λ (a : Answer). OnOk c.push_found.result (c.push_found.new.object ≡ with_members (surrogate_object c.args.writing c.args.names.now a) c.args.object.now))
    (sym c.in-Formula.is) c.push_found.ensures
