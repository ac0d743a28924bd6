use Rattle.std.proofs.Common.{◌∙◌, sym, refl}
use Rattle.std.proofs.lemmas.Bool.{false≢true}
use Rattle.evaluate_command.specs.Vocabulary.{evaluate_row}
use Rattle.paired_values.proofs.flags.has_plain_flag.Goals as goal

pub returns-then-flag-clause-yes : goal.returns-then-flag-clause-yes
returns-then-flag-clause-yes c = λ uses g a. false≢true (sym a.back_door ∙ sym (c.flag.ensures evaluate_row uses g refl) ∙ c.if-flag.true)

pub returns-then-flag-2-clause-yes : goal.returns-then-flag-2-clause-yes
returns-then-flag-2-clause-yes c = λ uses g a. false≢true (sym a.zero ∙ sym (c.flag-2.ensures evaluate_row uses g refl) ∙ c.if-flag-2.true)

pub returns-then-flag-3-clause-yes : goal.returns-then-flag-3-clause-yes
returns-then-flag-3-clause-yes c = λ uses g a. false≢true (sym a.matched ∙ sym (c.flag-3.ensures evaluate_row uses g refl) ∙ c.if-flag-3.true)

pub returns-then-flag-4-clause-yes : goal.returns-then-flag-4-clause-yes
returns-then-flag-4-clause-yes c = λ uses g a. false≢true (sym a.short ∙ sym (c.flag-4.ensures evaluate_row uses g refl) ∙ c.if-flag-4.true)

pub returns-clause-no : goal.returns-clause-no
returns-clause-no c = λ uses g. record {
  back_door = sym (c.flag.ensures evaluate_row uses g refl) ∙ c.if-flag.false;
  zero = sym (c.flag-2.ensures evaluate_row uses g refl) ∙ c.if-flag-2.false;
  matched = sym (c.flag-3.ensures evaluate_row uses g refl) ∙ c.if-flag-3.false;
  short = sym (c.flag-4.ensures evaluate_row uses g refl) ∙ c.if-flag-4.false;
}
