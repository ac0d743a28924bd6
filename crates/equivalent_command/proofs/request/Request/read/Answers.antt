use Rattle.std.proofs.Common.{refl, rules, ap, ◌∙◌}
use Rattle.command_words.proofs.Inputs.{with_file}
use Rattle.replies.specs.Vocabulary.{format_of}
use Rattle.equivalent_command.specs.Requests.{equivalent_row}
use Rattle.equivalent_command.proofs.request.Request.read.Goals as goal

pub returns-in_err-file-clause-none : goal.returns-in_err-file-clause-none
returns-in_err-file-clause-none c = λ uses g e. record { nothing = λ r is. c.in_err-file.ensures.none equivalent_row uses g refl (search rules) r.file is.file }

pub returns-in_err-second-clause-none : goal.returns-in_err-second-clause-none
returns-in_err-second-clause-none c = λ uses g e. record {
  nothing = λ r is. c.in_err-second.ensures.none equivalent_row uses g refl (search rules) r.second is.second
      (with_file _ _ _ _ is.file (c.in_ok-file.ensures.ok equivalent_row uses g refl) is.inputs);
}

pub returns-in_err-query-clause-none : goal.returns-in_err-query-clause-none
returns-in_err-query-clause-none c = λ uses g e. record { nothing = λ r is. c.in_err-query.ensures.none uses g (search rules) r.query is.query }

pub returns-clause-ok : goal.returns-clause-ok
returns-clause-ok c = λ uses g. record {
  file = c.in_ok-file.ensures.ok equivalent_row uses g refl;
  second = c.in_ok-second.ensures.ok equivalent_row uses g refl;
  inputs = c.in_ok-second.ensures.inputs;
  query = c.in_ok-query.ensures.ok uses g;
  format = c.of-format.ensures ∙ ap format_of (c.flag-json.ensures equivalent_row uses g refl);
}
