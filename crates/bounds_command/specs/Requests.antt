-- What `bounds` is asked for.
use Rattle.std.specs.Prelude.{ℕ, ◌≡◌, Bool, List, [], Option, Some, ◌∷◌, codes, option_map}
use Rattle.command_words.specs.Vocabulary.{Text, Row, Use, word_of, value_of, has_flag, names_in}
use Rattle.command_words.specs.Values as values
use Rattle.diagram.specs.Vocabulary.{Names}
use Rattle.replies.specs.declared.format.Format.{Format}
use Rattle.replies.specs.Vocabulary.{format_of}
use Rattle.bounds_command.specs.Ways.{Way, way_of, way_for}
use Rattle.bounds_command.specs.declared.request.Request.{Request as CodeRequest}

-- `bounds FILE COUNTS [--x L] [--y L] [[--given L] [--instrument L [--strata L]] | --set L] [--count NAME] [--exact] [--json]`
abbrev pub bounds_row : Row
bounds_row = record {
  name = codes "bounds";
  positionals = codes "file" ∷ codes "counts" ∷ [];
  optional = [];
  required = [];
  options = codes "x" ∷ codes "y" ∷ codes "given" ∷ codes "instrument" ∷ codes "strata" ∷ codes "set" ∷ codes "count" ∷ [];
  flags = codes "exact" ∷ codes "json" ∷ [];
}

-- a request
pub record Request : Type 0 where
  pub file : Text
  pub counts : Text
  pub x : Names
  pub y : Names
  pub way : Way
  pub count : Option Text
  pub exact : Bool
  pub format : Format

-- the request
abbrev pub request_of : CodeRequest → Request
request_of r = record {
  file = r.file.now;
  counts = r.counts.now;
  x = option_map names_in r.x;
  y = option_map names_in r.y;
  way = way_of r.way;
  count = option_map (λ s. s.now) r.count;
  exact = r.exact;
  format = r.format;
}

-- the uses ask for this
pub record IsRequest (uses : List Use) (r : Request) : Type 0 where
  pub subject : values.IsSubject bounds_row uses r.file r.x r.y
  pub counts : word_of bounds_row uses (codes "counts") ≡ Some r.counts
  pub inputs : values.AreTwoInputs r.file r.counts
  pub set : Names
  pub is_set : values.IsListed (value_of uses (codes "set")) set
  pub given : List (List ℕ)
  pub is_given : values.IsListedOrEmpty (value_of uses (codes "given")) given
  pub instruments : List (List ℕ)
  pub are_instruments : values.IsListedOrEmpty (value_of uses (codes "instrument")) instruments
  pub strata : List (List ℕ)
  pub are_strata : values.IsListedOrEmpty (value_of uses (codes "strata")) strata
  pub is_way : way_for set given instruments strata ≡ Some r.way
  pub count : value_of uses (codes "count") ≡ r.count
  pub exact : has_flag uses (codes "exact") ≡ r.exact
  pub format : r.format ≡ format_of (has_flag uses (codes "json"))
