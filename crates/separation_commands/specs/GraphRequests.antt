-- What `graph` is asked for.
use Rattle.std.specs.Prelude.{◌≡◌, Bool, List, Some, [], ◌∷◌, codes}
use Rattle.command_words.specs.Vocabulary.{Text, Row, Use, word_of, has_flag}
use Rattle.replies.specs.declared.format.Format.{Format}
use Rattle.replies.specs.Vocabulary.{format_of}
use Rattle.separation_commands.specs.declared.graph.request.Request.{Request as CodeRequest}

-- `graph FILE [--project] [--json]`
abbrev pub graph_row : Row
graph_row = record {
  name = codes "graph";
  positionals = codes "file" ∷ [];
  optional = [];
  required = [];
  options = [];
  flags = codes "project" ∷ codes "json" ∷ [];
}

-- a request
pub record Request : Type 0 where
  pub file : Text
  pub project : Bool
  pub format : Format

-- the request
abbrev pub request_of : CodeRequest → Request
request_of r = record { file = r.file.now; project = r.project; format = r.format }

-- the uses ask for this
pub record IsRequest (uses : List Use) (r : Request) : Type 0 where
  pub file : word_of graph_row uses (codes "file") ≡ Some r.file
  pub project : has_flag uses (codes "project") ≡ r.project
  pub format : r.format ≡ format_of (has_flag uses (codes "json"))
