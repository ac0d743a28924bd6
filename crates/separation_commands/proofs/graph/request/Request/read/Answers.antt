use Rattle.std.proofs.Common.{sym, refl, rules, ap, ◌∙◌}
use Rattle.replies.specs.Vocabulary.{format_of}
use Rattle.separation_commands.specs.GraphRequests.{graph_row}
use Rattle.separation_commands.proofs.graph.request.Request.read.Goals as goal

pub returns-in_err-file-clause-none : goal.returns-in_err-file-clause-none
returns-in_err-file-clause-none c = λ uses g e. record { nothing = λ r is. c.in_err-file.ensures.none graph_row uses g refl (search rules) r.file is.file }

pub returns-clause-ok : goal.returns-clause-ok
returns-clause-ok c = λ uses g. record {
  file = c.in_ok-file.ensures.ok graph_row uses g refl;
  project = sym (c.flag-project.ensures graph_row uses g refl);
  format = c.of-format.ensures ∙ ap format_of (c.flag-json.ensures graph_row uses g refl);
}
