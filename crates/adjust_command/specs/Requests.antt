-- What `adjust` is asked for.
use Rattle.std.specs.Prelude.{ℕ, ◌≡◌, List, [], Some, ◌∷◌, codes, option_map, is_some}
use Rattle.command_words.specs.Vocabulary.{Text, Row, Use, value_of, has_flag, names_in}
use Rattle.command_words.specs.Values as values
use Rattle.diagram.specs.Vocabulary.{Names}
use Rattle.replies.specs.declared.format.Format.{Format}
use Rattle.replies.specs.Vocabulary.{format_of}
use Rattle.adjust_command.specs.Queries.{Query, query_of, query_for}
use Rattle.adjust_command.specs.declared.request.Request.{Request as CodeRequest}

-- `adjust FILE [--x L] [--y L] [--set L [--back-door] | --most N] [--json]`
abbrev pub adjust_row : Row
adjust_row = record {
  name = codes "adjust";
  positionals = codes "file" ∷ [];
  optional = [];
  required = [];
  options = codes "x" ∷ codes "y" ∷ codes "set" ∷ codes "most" ∷ [];
  flags = codes "back-door" ∷ codes "json" ∷ [];
}

-- a request
pub record Request : Type 0 where
  pub file : Text
  pub x : Names
  pub y : Names
  pub query : Query
  pub format : Format

-- the request
abbrev pub request_of : CodeRequest → Request
request_of r = record { file = r.file.now; x = option_map names_in r.x; y = option_map names_in r.y; query = query_of r.query; format = r.format }

-- the uses ask for this
pub record IsRequest (uses : List Use) (r : Request) : Type 0 where
  pub subject : values.IsSubject adjust_row uses r.file r.x r.y
  pub set : Names
  pub is_set : values.IsListed (value_of uses (codes "set")) set
  pub most : ℕ
  pub is_most : values.IsNumberOr 100 (value_of uses (codes "most")) 1 10000 most
  pub is_query : query_for set (has_flag uses (codes "back-door")) (is_some (value_of uses (codes "most"))) most ≡ Some r.query
  pub format : r.format ≡ format_of (has_flag uses (codes "json"))
