use Rattle.std.proofs.Common.{◌≡◌, ◌∙◌, Option, Some, sym, ap, refl, subst, rules}
use Rattle.std.proofs.lemmas.Option.{same_Some}
use Rattle.command_words.specs.Vocabulary.{Text}
use Rattle.replies.specs.Vocabulary.{format_of}
use Rattle.implications_command.specs.Requests.{implications_row, AreInputs}
use Rattle.implications_command.proofs.request.Request.read.Goals as goal

same_inputs : (file f : Text) (counts k count n : Option Text) → Some file ≡ Some f → counts ≡ k → count ≡ n → AreInputs file counts count → AreInputs f k n
same_inputs file f counts k count n p q r h =
    subst (λ x. AreInputs x k n) (same_Some file f p) (subst (λ y. AreInputs file y n) q (subst (λ z. AreInputs file counts z) r h))

pub returns-in_err-file-clause-none : goal.returns-in_err-file-clause-none
returns-in_err-file-clause-none c =
    λ uses g e. record { nothing = λ r is. c.in_err-file.ensures.none implications_row uses g refl (search rules) r.file is.file }

pub returns-then-not-are_inputs-clause-none : goal.returns-then-not-are_inputs-clause-none
returns-then-not-are_inputs-clause-none c = λ uses g e. record {
  nothing = λ r is.
      c.are_inputs.ensures.no c.if-not-are_inputs.true
      (same_inputs r.file _ r.counts _ r.count _ (sym is.file ∙ c.in_ok-file.ensures.ok implications_row uses g refl)
      (sym is.counts ∙ sym (c.word-counts.ensures implications_row uses g refl))
      (sym is.count ∙ sym (c.value_bytes-count.ensures implications_row uses g refl)) is.inputs);
}

pub returns-clause-ok : goal.returns-clause-ok
returns-clause-ok c = λ uses g. record {
  file = c.in_ok-file.ensures.ok implications_row uses g refl;
  counts = sym (c.word-counts.ensures implications_row uses g refl);
  count = sym (c.value_bytes-count.ensures implications_row uses g refl);
  inputs = c.are_inputs.ensures.yes c.if-not-are_inputs.false;
  format = c.of-format.ensures ∙ ap format_of (c.flag-json.ensures implications_row uses g refl);
}
