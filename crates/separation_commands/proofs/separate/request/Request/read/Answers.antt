use Rattle.std.proofs.Common.{refl, rules, ap, ◌∙◌}
use Rattle.replies.specs.Vocabulary.{format_of}
use Rattle.separation_commands.specs.SeparateRequests.{separate_row}
use Rattle.separation_commands.proofs.separate.request.Request.read.Goals as goal

pub returns-in_err-file-clause-none : goal.returns-in_err-file-clause-none
returns-in_err-file-clause-none c =
    λ uses g e. record { nothing = λ r is. c.in_err-file.ensures.none separate_row uses g (refl, refl, refl) (search rules) r.file r.x r.y is.subject }

pub returns-in_err-given-clause-none : goal.returns-in_err-given-clause-none
returns-in_err-given-clause-none c =
    λ uses g e. record { nothing = λ r is. c.in_err-given.ensures.none separate_row uses g refl (search rules) r.given is.given }

pub returns-clause-ok : goal.returns-clause-ok
returns-clause-ok c = λ uses g. record {
  subject = c.in_ok-file.ensures.ok separate_row uses g (refl, refl, refl);
  given = c.in_ok-given.ensures.ok separate_row uses g refl;
  format = c.of-format.ensures ∙ ap format_of (c.flag-json.ensures separate_row uses g refl);
}
