-- What `implications` is asked for.
use Rattle.std.specs.Prelude.{◌≡◌, List, Option, Some, None, [], ◌∷◌, codes, option_map}
use Rattle.command_words.specs.Vocabulary.{Text, Row, Use, word_of, value_of, has_flag, AreTwoInputs}
use Rattle.replies.specs.declared.format.Format.{Format}
use Rattle.replies.specs.Vocabulary.{format_of}
use Rattle.implications_command.specs.declared.request.Request.{Request as CodeRequest}

-- `implications FILE [COUNTS] [--count NAME] [--json]`
abbrev pub implications_row : Row
implications_row = record {
  name = codes "implications";
  positionals = codes "file" ∷ [];
  optional = codes "counts" ∷ [];
  required = [];
  options = codes "count" ∷ [];
  flags = codes "json" ∷ [];
}

-- a request
pub record Request : Type 0 where
  pub file : Text
  pub counts : Option Text
  pub count : Option Text
  pub format : Format

-- the request
abbrev pub request_of : CodeRequest → Request
request_of r = record { file = r.file.now; counts = option_map (λ s. s.now) r.counts; count = option_map (λ s. s.now) r.count; format = r.format }

-- file, counts and the name of their column go together: counts aren't standard input where the file is, and no column is named without counts
abbrev pub AreInputs : Text → Option Text → Option Text → Type 0
AreInputs file (Some counts) count = AreTwoInputs file counts
AreInputs file None (Some count) = ⊥
AreInputs file None None = Unit {0}

-- the uses ask for this
pub record IsRequest (uses : List Use) (r : Request) : Type 0 where
  pub file : word_of implications_row uses (codes "file") ≡ Some r.file
  pub counts : word_of implications_row uses (codes "counts") ≡ r.counts
  pub count : value_of uses (codes "count") ≡ r.count
  pub inputs : AreInputs r.file r.counts r.count
  pub format : r.format ≡ format_of (has_flag uses (codes "json"))
