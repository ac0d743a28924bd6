use Rattle.std.proofs.Common.{◌≡◌, IfOk, sym, subst}
use Rattle.surrogate_command.specs.declared.answer.Answer.{Answer}
use Rattle.surrogate_command.specs.Telling.{surrogate_text}
use Rattle.surrogate_command.proofs.answer.AnswerTold.text.Goals as goal

pub returns-in-Blocked : goal.returns-in-Blocked
returns-in-Blocked c =
    subst (λ (a : Answer). IfOk c.blocked_text.result (λ v. v.items ≡ surrogate_text c.args.writing c.args.names.now a)) (sym c.in-Blocked.is) c.blocked_text.ensures
