-- What `check` is asked for, and `steps`, whose words differ in the command's name alone.
use Rattle.std.specs.Prelude.{◌≡◌, List, [], Some, ◌∷◌, codes}
use Rattle.command_words.specs.Vocabulary.{Text, Row, Use, word_of, value_of, has_flag}
use Rattle.command_words.specs.Values as values
use Rattle.replies.specs.declared.format.Format.{Format}
use Rattle.replies.specs.Vocabulary.{format_of}
use Rattle.experiment_lists.specs.Vocabulary.{lists_in, Lists, AreOptionalExperiments}
use Rattle.check_command.specs.declared.request.Request.{Request as CodeRequest}

-- `NAME FILE CERTIFICATE [--experiments E] [--json]`
abbrev pub certificate_row : (name : Text) → Row
certificate_row name = record {
  name = name;
  positionals = codes "file" ∷ codes "certificate" ∷ [];
  optional = [];
  required = [];
  options = codes "experiments" ∷ [];
  flags = codes "json" ∷ [];
}

-- the row of `check`
abbrev pub check_row : Row
check_row = certificate_row (codes "check")

-- a request
pub record Request : Type 0 where
  pub file : Text
  pub certificate : Text
  pub experiments : Lists
  pub format : Format

-- the request
abbrev pub request_of : CodeRequest → Request
request_of r = record { file = r.file.now; certificate = r.certificate.now; experiments = lists_in r.experiments; format = r.format }

-- the uses ask for this
pub record IsRequest (uses : List Use) (r : Request) : Type 0 where
  pub file : word_of check_row uses (codes "file") ≡ Some r.file
  pub certificate : word_of check_row uses (codes "certificate") ≡ Some r.certificate
  pub inputs : values.AreTwoInputs r.file r.certificate
  pub experiments : AreOptionalExperiments (value_of uses (codes "experiments")) r.experiments
  pub format : r.format ≡ format_of (has_flag uses (codes "json"))
