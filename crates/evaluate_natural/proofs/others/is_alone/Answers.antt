use Rattle.std.proofs.Common.{◌∙◌, sym, refl, subst}
use Rattle.std.proofs.lemmas.Bool.{false≢true}
use Rattle.std.specs.Bool.{OnFalse}
use Rattle.evaluate_command.specs.Vocabulary.{evaluate_row}
use Rattle.paired_values.specs.Vocabulary.{HaveNoPlainFlag}
use Rattle.evaluate_natural.proofs.others.is_alone.Goals as goal

pub returns-then-flag-clause-no : goal.returns-then-flag-clause-no
returns-then-flag-clause-no c = λ uses g a. false≢true (sym a.treated ∙ sym (c.flag.ensures evaluate_row uses g refl) ∙ c.if-flag.true)

pub returns-in-None-clause-yes : goal.returns-in-None-clause-yes
returns-in-None-clause-yes c = λ uses g. record {
  set = sym (c.in-None.ensures evaluate_row uses g refl);
  treated = sym (c.flag.ensures evaluate_row uses g refl) ∙ c.if-flag.false;
  flags = subst (λ b. OnFalse b (HaveNoPlainFlag uses)) c.if-has_plain_flag.false (c.has_plain_flag.ensures.no uses g);
}
