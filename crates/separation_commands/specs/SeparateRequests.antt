-- What `separate` is asked for.
use Rattle.std.specs.Prelude.{◌≡◌, List, [], ◌∷◌, codes, option_map}
use Rattle.command_words.specs.Vocabulary.{Text, Row, Use, value_of, has_flag, names_in}
use Rattle.command_words.specs.Values as values
use Rattle.diagram.specs.Vocabulary.{Names}
use Rattle.replies.specs.declared.format.Format.{Format}
use Rattle.replies.specs.Vocabulary.{format_of}
use Rattle.separation_commands.specs.declared.separate.request.Request.{Request as CodeRequest}

-- `separate FILE [--x L] [--y L] [--given L] [--json]`
abbrev pub separate_row : Row
separate_row = record {
  name = codes "separate";
  positionals = codes "file" ∷ [];
  optional = [];
  required = [];
  options = codes "x" ∷ codes "y" ∷ codes "given" ∷ [];
  flags = codes "json" ∷ [];
}

-- a request
pub record Request : Type 0 where
  pub file : Text
  pub x : Names
  pub y : Names
  pub given : Names
  pub format : Format

-- the request
abbrev pub request_of : CodeRequest → Request
request_of r = record { file = r.file.now; x = option_map names_in r.x; y = option_map names_in r.y; given = option_map names_in r.given; format = r.format }

-- the uses ask for this
pub record IsRequest (uses : List Use) (r : Request) : Type 0 where
  pub subject : values.IsSubject separate_row uses r.file r.x r.y
  pub given : values.IsListed (value_of uses (codes "given")) r.given
  pub format : r.format ≡ format_of (has_flag uses (codes "json"))
