use Rattle.std.proofs.Common.{◌≡◌, ◌∙◌, true, ap, subst, sym, refl, rules, true≢false}
use Rattle.std.specs.Bool.{OnTrue}
use Rattle.command_words.proofs.Inputs.{with_file}
use Rattle.replies.specs.Vocabulary.{format_of}
use Rattle.told.specs.Vocabulary.{plain_form}
use Rattle.evaluate_command.specs.Vocabulary.{evaluate_row}
use Rattle.evaluate_natural.specs.Requests.{AskNoOther}
use Rattle.evaluate_natural.proofs.request.Request.read.Goals as goal

pub returns-then-not-flag-clause-none : goal.returns-then-not-flag-clause-none
returns-then-not-flag-clause-none c = λ uses g e. record {
  nothing = λ r is. true≢false (sym (c.flag.ensures evaluate_row uses g refl ∙ is.natural) ∙ c.if-not-flag.true);
}

pub returns-in_err-file-clause-none : goal.returns-in_err-file-clause-none
returns-in_err-file-clause-none c =
    λ uses g e. record {
      nothing = λ r is. c.in_err-file.ensures.none evaluate_row uses g (refl, refl, refl) (search rules) r.effect.file r.effect.x r.effect.y (record {
        is_file = is.file;
        is_x = is.x;
        is_y = is.y;
      });
    }

pub returns-in_err-counts-clause-none : goal.returns-in_err-counts-clause-none
returns-in_err-counts-clause-none c = λ uses g e. record {
  nothing = λ r is. c.in_err-counts.ensures.none evaluate_row uses g refl (search rules) r.counts is.counts
      (with_file _ _ _ _ is.file (c.in_ok-file.ensures.ok evaluate_row uses g (refl, refl, refl)).is_file is.inputs);
}

pub returns-in_err-through-clause-none : goal.returns-in_err-through-clause-none
returns-in_err-through-clause-none c =
    λ uses g e. record { nothing = λ r is. c.in_err-through.ensures.none evaluate_row uses g refl (search rules) r.effect.through is.through }

pub returns-in_err-given-clause-none : goal.returns-in_err-given-clause-none
returns-in_err-given-clause-none c =
    λ uses g e. record { nothing = λ r is. c.in_err-given.ensures.none evaluate_row uses g refl (search rules) r.effect.given is.given }

pub returns-clause-ok : goal.returns-clause-ok
returns-clause-ok c = λ uses g. let s = c.in_ok-file.ensures.ok evaluate_row uses g (refl, refl, refl) in record {
  natural = let asked : c.flag.result ≡ true = search rules in sym (c.flag.ensures evaluate_row uses g refl) ∙ asked;
  alone = let asked : c.is_alone.result ≡ true = search rules in subst (λ b. OnTrue b (AskNoOther uses)) asked (c.is_alone.ensures.yes uses g);
  file = s.is_file;
  x = s.is_x;
  y = s.is_y;
  counts = c.in_ok-counts.ensures.ok evaluate_row uses g refl;
  inputs = c.in_ok-counts.ensures.inputs;
  through = c.in_ok-through.ensures.ok evaluate_row uses g refl;
  given = c.in_ok-given.ensures.ok evaluate_row uses g refl;
  count = sym (c.value_bytes-count.ensures evaluate_row uses g refl);
  exact = sym (c.flag-exact.ensures evaluate_row uses g refl);
  form = c.plain-form.ensures ∙ ap plain_form (c.of-format.ensures ∙ ap format_of (c.flag-2.ensures evaluate_row uses g refl));
}
