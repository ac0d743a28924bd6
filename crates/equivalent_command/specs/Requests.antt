-- What `equivalent` is asked for.
use Rattle.std.specs.Prelude.{ℕ, ◌≡◌, List, Option, Some, None, [], ◌∷◌, codes, option_map}
use Rattle.command_words.specs.Vocabulary.{Text, Row, Use, word_of, value_of, has_flag, names_in}
use Rattle.command_words.specs.Values as values
use Rattle.replies.specs.declared.format.Format.{Format}
use Rattle.replies.specs.Vocabulary.{format_of}
use Rattle.equivalent_command.specs.declared.request.Query.{Query as CodeQuery}
use Rattle.equivalent_command.specs.declared.request.Request.{Request as CodeRequest}

-- `equivalent FILE FILE2 [--x L] [--y L] [--given L] [--json]`
abbrev pub equivalent_row : Row
equivalent_row = record {
  name = codes "equivalent";
  positionals = codes "file" ∷ codes "second" ∷ [];
  optional = [];
  required = [];
  options = codes "x" ∷ codes "y" ∷ codes "given" ∷ [];
  flags = codes "json" ∷ [];
}

-- the lists of a separation that is asked about
pub record Query : Type 0 where
  pub x : List (List ℕ)
  pub y : List (List ℕ)
  pub given : List (List ℕ)

-- the lists
abbrev pub query_of : CodeQuery → Query
query_of q = record { x = names_in q.x; y = names_in q.y; given = names_in q.given }

-- the values of the three options list this: x and y are both there, and given may be; or none of the three is
abbrev pub IsQuery : (x y given : Option Text) → Option Query → Type 0
IsQuery x y given None = (x ≡ None) × (y ≡ None) × (given ≡ None)
IsQuery x y given (Some q) = values.IsRequiredList x q.x × values.IsRequiredList y q.y × values.IsListedOrEmpty given q.given

-- a request
pub record Request : Type 0 where
  pub file : Text
  pub second : Text
  pub query : Option Query
  pub format : Format

-- the request
abbrev pub request_of : CodeRequest → Request
request_of r = record { file = r.file.now; second = r.second.now; query = option_map query_of r.query; format = r.format }

-- the uses ask for this
pub record IsRequest (uses : List Use) (r : Request) : Type 0 where
  pub file : word_of equivalent_row uses (codes "file") ≡ Some r.file
  pub second : word_of equivalent_row uses (codes "second") ≡ Some r.second
  pub inputs : values.AreTwoInputs r.file r.second
  pub query : IsQuery (value_of uses (codes "x")) (value_of uses (codes "y")) (value_of uses (codes "given")) r.query
  pub format : r.format ≡ format_of (has_flag uses (codes "json"))
