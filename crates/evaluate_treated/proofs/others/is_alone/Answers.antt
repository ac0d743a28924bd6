use Rattle.std.proofs.Common.{◌≡◌, ◌∙◌, sym, refl, subst, false, Option, None, Some, option_map, true≢false}
use Rattle.std.proofs.lemmas.Bool.{false≢true}
use Rattle.std.specs.Bool.{OnFalse}
use Rattle.std.specs.Prelude.{is_some}
use Rattle.evaluate_command.specs.Vocabulary.{evaluate_row}
use Rattle.paired_values.specs.Vocabulary.{HaveNoPlainFlag}
use Rattle.evaluate_treated.proofs.others.is_alone.Goals as goal

-- nothing is made of nothing
none_of : {A B : Type 0} (f : A → B) (o : Option A) → is_some o ≡ false → option_map f o ≡ None
none_of f None h = refl
none_of f (Some x) h = absurd (true≢false h)

pub returns-then-flag-clause-no : goal.returns-then-flag-clause-no
returns-then-flag-clause-no c = λ uses g a. false≢true (sym a.natural ∙ sym (c.flag.ensures evaluate_row uses g refl) ∙ c.if-flag.true)

pub returns-in-None-clause-yes : goal.returns-in-None-clause-yes
returns-in-None-clause-yes c = λ uses g. record {
  set = sym (c.option.ensures evaluate_row uses g refl) ∙ none_of (λ s. s.now) c.option.result (sym c.is_some.ensures ∙ c.if-is_some.false);
  through = sym (c.in-None.ensures evaluate_row uses g refl);
  natural = sym (c.flag.ensures evaluate_row uses g refl) ∙ c.if-flag.false;
  flags = subst (λ b. OnFalse b (HaveNoPlainFlag uses)) c.if-has_plain_flag.false (c.has_plain_flag.ensures.no uses g);
}
