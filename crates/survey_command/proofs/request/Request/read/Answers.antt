use Rattle.std.proofs.Common.{refl, rules, ap, ◌∙◌}
use Rattle.replies.specs.Vocabulary.{format_of}
use Rattle.survey_command.specs.Requests.{survey_row}
use Rattle.survey_command.proofs.request.Request.read.Goals as goal

pub returns-in_err-seed-clause-none : goal.returns-in_err-seed-clause-none
returns-in_err-seed-clause-none c = λ uses g e. record { nothing = λ r is. c.in_err-seed.ensures.none survey_row uses g refl (search rules) r.seed is.seed }

pub returns-clause-ok : goal.returns-clause-ok
returns-clause-ok c = λ uses g. record {
  seed = c.in_ok-seed.ensures.ok survey_row uses g refl;
  format = c.of-format.ensures ∙ ap format_of (c.flag-json.ensures survey_row uses g refl);
}
