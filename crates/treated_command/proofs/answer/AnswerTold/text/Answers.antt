use Rattle.std.proofs.Common.{◌≡◌, IfOk, sym, subst}
use Rattle.treated_command.specs.declared.answer.Answer.{Answer}
use Rattle.treated_command.specs.Telling.{treated_text}
use Rattle.treated_command.proofs.answer.AnswerTold.text.Goals as goal

pub returns-in-Certified : goal.returns-in-Certified
returns-in-Certified c =
    subst (λ (a : Answer). IfOk c.part_certificate_line.result (λ v. v.items ≡ treated_text c.args.writing c.args.names.now a)) (sym c.in-Certified.is)
    c.part_certificate_line.ensures.written

pub returns-in-Excluded : goal.returns-in-Excluded
returns-in-Excluded c =
    subst (λ (a : Answer). IfOk c.excluded_text.result (λ v. v.items ≡ treated_text c.args.writing c.args.names.now a)) (sym c.in-Excluded.is)
    c.excluded_text.ensures
