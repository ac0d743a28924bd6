-- What `treated` is asked for.
use Rattle.std.specs.Prelude.{◌≡◌, List, [], Some, ◌∷◌, codes, option_map}
use Rattle.command_words.specs.Vocabulary.{Text, Row, Use, value_of, has_flag, names_in}
use Rattle.command_words.specs.Values as values
use Rattle.diagram.specs.Vocabulary.{Names}
use Rattle.told.specs.declared.form.Form.{Form}
use Rattle.derived_certificates.specs.Vocabulary.{certified_form}
use Rattle.treated_command.specs.declared.request.Request.{Request as CodeRequest}

-- `treated FILE [--x L] [--y L] [--given L] [--certificate] [--latex] [--json]`
abbrev pub treated_row : Row
treated_row = record {
  name = codes "treated";
  positionals = codes "file" ∷ [];
  optional = [];
  required = [];
  options = codes "x" ∷ codes "y" ∷ codes "given" ∷ [];
  flags = codes "certificate" ∷ codes "latex" ∷ codes "json" ∷ [];
}

-- a request
pub record Request : Type 0 where
  pub file : Text
  pub x : Names
  pub y : Names
  pub given : List Text
  pub form : Form

-- the request
abbrev pub request_of : CodeRequest → Request
request_of r = record { file = r.file.now; x = option_map names_in r.x; y = option_map names_in r.y; given = names_in r.given; form = r.form }

-- the uses ask for this
pub record IsRequest (uses : List Use) (r : Request) : Type 0 where
  pub subject : values.IsSubject treated_row uses r.file r.x r.y
  pub given : values.IsListedOrEmpty (value_of uses (codes "given")) r.given
  pub form : certified_form (has_flag uses (codes "certificate")) (has_flag uses (codes "latex")) (has_flag uses (codes "json")) ≡ Some r.form
