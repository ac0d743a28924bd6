-- What `surrogate` is asked for.
use Rattle.std.specs.Prelude.{◌≡◌, List, [], Some, ◌∷◌, codes, option_map}
use Rattle.command_words.specs.Vocabulary.{Text, Row, Use, value_of, has_flag, names_in}
use Rattle.command_words.specs.Values as values
use Rattle.diagram.specs.Vocabulary.{Names}
use Rattle.experiment_lists.specs.Vocabulary.{Lists, AreNeededExperiments, lists_in}
use Rattle.surrogate_command.specs.declared.form.Form.{Form}
use Rattle.surrogate_command.specs.Forms.{form_for}
use Rattle.surrogate_command.specs.declared.request.Request.{Request as CodeRequest}

-- `surrogate FILE [--x L] [--y L] --experiments E [--models] [--certificate] [--json]`
abbrev pub surrogate_row : Row
surrogate_row = record {
  name = codes "surrogate";
  positionals = codes "file" ∷ [];
  optional = [];
  required = codes "experiments" ∷ [];
  options = codes "x" ∷ codes "y" ∷ [];
  flags = codes "models" ∷ codes "certificate" ∷ codes "json" ∷ [];
}

-- a request
pub record Request : Type 0 where
  pub file : Text
  pub x : Names
  pub y : Names
  pub experiments : Lists
  pub form : Form

-- the request
abbrev pub request_of : CodeRequest → Request
request_of r = record { file = r.file.now; x = option_map names_in r.x; y = option_map names_in r.y; experiments = lists_in r.experiments; form = r.form }

-- the uses ask for this
pub record IsRequest (uses : List Use) (r : Request) : Type 0 where
  pub subject : values.IsSubject surrogate_row uses r.file r.x r.y
  pub experiments : AreNeededExperiments (value_of uses (codes "experiments")) r.experiments
  pub form : form_for (has_flag uses (codes "models")) (has_flag uses (codes "certificate")) (has_flag uses (codes "json")) ≡ Some r.form
