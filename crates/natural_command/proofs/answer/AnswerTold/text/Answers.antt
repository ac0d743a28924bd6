use Rattle.std.proofs.Common.{◌≡◌, IfOk, sym, subst}
use Rattle.natural_command.specs.declared.answer.Answer.{Answer}
use Rattle.natural_command.specs.Telling.{natural_text}
use Rattle.natural_command.proofs.answer.AnswerTold.text.Goals as goal

pub returns-in-Certified : goal.returns-in-Certified
returns-in-Certified c =
    subst (λ (a : Answer). IfOk c.part_certificate_line.result (λ v. v.items ≡ natural_text c.args.writing c.args.names.now a)) (sym c.in-Certified.is)
    c.part_certificate_line.ensures.written

pub returns-in-Excluded : goal.returns-in-Excluded
returns-in-Excluded c =
    subst (λ (a : Answer). IfOk c.excluded_text.result (λ v. v.items ≡ natural_text c.args.writing c.args.names.now a)) (sym c.in-Excluded.is)
    c.excluded_text.ensures

pub returns-in-Witness : goal.returns-in-Witness
returns-in-Witness c =
    subst (λ (a : Answer). IfOk c.witness_with.result (λ v. v.items ≡ natural_text c.args.writing c.args.names.now a)) (sym c.in-Witness.is)
    c.witness_with.ensures

pub returns-in-Split : goal.returns-in-Split
returns-in-Split c =
    subst (λ (a : Answer). IfOk c.split_with.result (λ v. v.items ≡ natural_text c.args.writing c.args.names.now a)) (sym c.in-Split.is)
    c.split_with.ensures
