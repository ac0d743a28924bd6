use Rattle.std.proofs.Common.{◌∙◌, sym, refl}
use Rattle.std.proofs.lemmas.Bool.{false≢true}
use Rattle.std.proofs.lemmas.Option.{none-some}
use Rattle.evaluate_command.specs.Requests.{evaluate_row}
use Rattle.evaluate_command.proofs.plain.is_plain.Goals as goal

pub returns-then-flag-clause-no : goal.returns-then-flag-clause-no
returns-then-flag-clause-no c = λ uses g a. false≢true (sym a.treated ∙ sym (c.flag.ensures evaluate_row uses g refl) ∙ c.if-flag.true)

pub returns-then-flag-2-clause-no : goal.returns-then-flag-2-clause-no
returns-then-flag-2-clause-no c = λ uses g a. false≢true (sym a.natural ∙ sym (c.flag-2.ensures evaluate_row uses g refl) ∙ c.if-flag-2.true)

pub returns-in-Some-clause-no : goal.returns-in-Some-clause-no
returns-in-Some-clause-no c = λ uses g a. none-some _ (sym a.through ∙ sym (c.in-Some.ensures evaluate_row uses g refl))

pub returns-in-None-clause-yes : goal.returns-in-None-clause-yes
returns-in-None-clause-yes c = λ uses g. record {
  treated = sym (c.flag.ensures evaluate_row uses g refl) ∙ c.if-flag.false;
  natural = sym (c.flag-2.ensures evaluate_row uses g refl) ∙ c.if-flag-2.false;
  through = sym (c.in-None.ensures evaluate_row uses g refl);
}
