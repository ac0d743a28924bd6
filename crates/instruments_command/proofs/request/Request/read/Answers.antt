use Rattle.std.proofs.Common.{refl, rules, ap, ◌∙◌}
use Rattle.replies.specs.Vocabulary.{format_of}
use Rattle.instruments_command.specs.Requests.{instruments_row}
use Rattle.instruments_command.proofs.request.Request.read.Goals as goal

pub returns-in_err-file-clause-none : goal.returns-in_err-file-clause-none
returns-in_err-file-clause-none c =
    λ uses g e. record { nothing = λ r is. c.in_err-file.ensures.none instruments_row uses g (refl, refl, refl) (search rules) r.file r.x r.y is.subject }

pub returns-in_err-most-clause-none : goal.returns-in_err-most-clause-none
returns-in_err-most-clause-none c =
    λ uses g e. record { nothing = λ r is. c.in_err-most.ensures.none instruments_row uses g refl (search rules) r.most is.most }

pub returns-clause-ok : goal.returns-clause-ok
returns-clause-ok c = λ uses g. record {
  subject = c.in_ok-file.ensures.ok instruments_row uses g (refl, refl, refl);
  most = c.in_ok-most.ensures.ok instruments_row uses g refl;
  format = c.of-format.ensures ∙ ap format_of (c.flag-json.ensures instruments_row uses g refl);
}
