use Rattle.std.proofs.Common.{refl, rules, ap, ◌∙◌}
use Rattle.command_words.proofs.Inputs.{with_file}
use Rattle.replies.specs.Vocabulary.{format_of}
use Rattle.check_command.specs.Requests.{certificate_row}
use Rattle.check_command.proofs.request.Request.read_named.Goals as goal

pub returns-in_err-file-clause-none : goal.returns-in_err-file-clause-none
returns-in_err-file-clause-none c = λ name uses g e r is. c.in_err-file.ensures.none (certificate_row name) uses g refl (search rules) r.file is.file

pub returns-in_err-certificate-clause-none : goal.returns-in_err-certificate-clause-none
returns-in_err-certificate-clause-none c = λ name uses g e r is.
    c.in_err-certificate.ensures.none (certificate_row name) uses g refl (search rules) r.certificate is.certificate
    (with_file _ _ _ _ is.file (c.in_ok-file.ensures.ok (certificate_row name) uses g refl) is.inputs)

pub returns-in_err-experiments-clause-none : goal.returns-in_err-experiments-clause-none
returns-in_err-experiments-clause-none c =
    λ name uses g e r is. c.in_err-experiments.ensures.none (certificate_row name) uses g refl (search rules) r.experiments is.experiments

pub returns-clause-ok : goal.returns-clause-ok
returns-clause-ok c = λ name uses g. record {
  file = c.in_ok-file.ensures.ok (certificate_row name) uses g refl;
  certificate = c.in_ok-certificate.ensures.ok (certificate_row name) uses g refl;
  inputs = c.in_ok-certificate.ensures.inputs;
  experiments = c.in_ok-experiments.ensures.ok (certificate_row name) uses g refl;
  format = c.of-format.ensures ∙ ap format_of (c.flag.ensures (certificate_row name) uses g refl);
}
