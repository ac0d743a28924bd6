-- What `instruments` is asked for.
use Rattle.std.specs.Prelude.{ℕ, ◌≡◌, List, [], ◌∷◌, codes, option_map}
use Rattle.command_words.specs.Vocabulary.{Text, Row, Use, value_of, has_flag, names_in}
use Rattle.command_words.specs.Values as values
use Rattle.diagram.specs.Vocabulary.{Names}
use Rattle.replies.specs.declared.format.Format.{Format}
use Rattle.replies.specs.Vocabulary.{format_of}
use Rattle.instruments_command.specs.declared.request.Request.{Request as CodeRequest}

-- `instruments FILE [--x L] [--y L] [--most N] [--json]`
abbrev pub instruments_row : Row
instruments_row = record {
  name = codes "instruments";
  positionals = codes "file" ∷ [];
  optional = [];
  required = [];
  options = codes "x" ∷ codes "y" ∷ codes "most" ∷ [];
  flags = codes "json" ∷ [];
}

-- a request: at most so many sets of each vertex
pub record Request : Type 0 where
  pub file : Text
  pub x : Names
  pub y : Names
  pub most : ℕ
  pub format : Format

-- the request
abbrev pub request_of : CodeRequest → Request
request_of r = record { file = r.file.now; x = option_map names_in r.x; y = option_map names_in r.y; most = r.most; format = r.format }

-- the uses ask for this
pub record IsRequest (uses : List Use) (r : Request) : Type 0 where
  pub subject : values.IsSubject instruments_row uses r.file r.x r.y
  pub most : values.IsNumberOr 100 (value_of uses (codes "most")) 1 10000 r.most
  pub format : r.format ≡ format_of (has_flag uses (codes "json"))
