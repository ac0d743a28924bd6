use Rattle.std.proofs.Common.{◌≡◌, sym, subst}
use Rattle.std.specs.Prelude.{OnOk}
use Rattle.answer_json.specs.Vocabulary.{with_members}
use Rattle.treated_command.specs.declared.answer.Answer.{Answer}
use Rattle.treated_command.specs.Telling.{treated_members}
use Rattle.treated_command.proofs.answer.AnswerTold.push_members.Goals as goal

pub returns-in-Formula : goal.returns-in-Formula
returns-in-Formula c =
    subst (λ (a : Answer). OnOk c.push_formula_of.result (c.push_formula_of.new.object ≡ with_members (treated_members c.args.names.now a) c.args.object.now))
    (sym c.in-Formula.is) c.push_formula_of.ensures

pub returns-in-Certified : goal.returns-in-Certified
returns-in-Certified c =
    subst (λ (a : Answer). OnOk c.push_certified.result (c.push_certified.new.object ≡ with_members (treated_members c.args.names.now a) c.args.object.now))
    (sym c.in-Certified.is) c.push_certified.ensures

pub returns-in-Excluded : goal.returns-in-Excluded
returns-in-Excluded c =
    subst (λ (a : Answer). OnOk c.push_excluded.result (c.push_excluded.new.object ≡ with_members (treated_members c.args.names.now a) c.args.object.now))
    (sym c.in-Excluded.is) c.push_excluded.ensures
