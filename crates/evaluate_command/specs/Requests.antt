-- What `evaluate` is asked for.
use Rattle.std.specs.Prelude.{ℕ, ◌≡◌, Bool, false, List, Option, Some, None, [], ◌∷◌, codes, option_map}
use Rattle.command_words.specs.Vocabulary.{Text, Row, Use, word_of, value_of, has_flag, names_in}
use Rattle.command_words.specs.Values as values
use Rattle.diagram.specs.Vocabulary.{Names}
use Rattle.replies.specs.declared.format.Format.{Format}
use Rattle.replies.specs.Vocabulary.{format_of}
use Rattle.evaluate_command.specs.Ways.{Way, way_of, way_for}
use Rattle.evaluate_command.specs.declared.request.Request.{Request as CodeRequest}

-- `evaluate FILE COUNTS [--x L] [--y L] [--given L] [--set L] [--back-door] [--count NAME] [--exact] [--zero] [--matched] [--short] [--treated] [--natural]
-- [--through L] [--json]`
abbrev pub evaluate_row : Row
evaluate_row = record {
  name = codes "evaluate";
  positionals = codes "file" ∷ codes "counts" ∷ [];
  optional = [];
  required = [];
  options = codes "x" ∷ codes "y" ∷ codes "given" ∷ codes "set" ∷ codes "count" ∷ codes "through" ∷ [];
  flags = codes "back-door" ∷ codes "exact" ∷ codes "zero" ∷ codes "matched" ∷ codes "short" ∷ codes "treated" ∷ codes "natural" ∷ codes "json" ∷ [];
}

-- a request
pub record Request : Type 0 where
  pub file : Text
  pub counts : Text
  pub x : Names
  pub y : Names
  pub way : Way
  pub count : Option Text
  pub exact : Bool
  pub zero : Bool
  pub matched : Bool
  pub format : Format

-- the request
abbrev pub request_of : CodeRequest → Request
request_of r = record {
  file = r.file.now;
  counts = r.counts.now;
  x = option_map names_in r.x;
  y = option_map names_in r.y;
  way = way_of r.way;
  count = option_map (λ s. s.now) r.count;
  exact = r.exact;
  zero = r.zero;
  matched = r.matched;
  format = r.format;
}

-- the uses ask for an effect as it is: not among those who were treated, and not through mediators
pub record AskPlainly (uses : List Use) : Type 0 where
  pub treated : has_flag uses (codes "treated") ≡ false
  pub natural : has_flag uses (codes "natural") ≡ false
  pub through : value_of uses (codes "through") ≡ None

-- the uses ask for this
pub record IsRequest (uses : List Use) (r : Request) : Type 0 where
  pub plain : AskPlainly uses
  pub file : word_of evaluate_row uses (codes "file") ≡ Some r.file
  pub counts : word_of evaluate_row uses (codes "counts") ≡ Some r.counts
  pub inputs : values.AreTwoInputs r.file r.counts
  pub x : values.IsListed (value_of uses (codes "x")) r.x
  pub y : values.IsListed (value_of uses (codes "y")) r.y
  pub set : Names
  pub is_set : values.IsListed (value_of uses (codes "set")) set
  pub given : List (List ℕ)
  pub is_given : values.IsListedOrEmpty (value_of uses (codes "given")) given
  pub is_way : way_for set given (has_flag uses (codes "back-door")) (has_flag uses (codes "short")) ≡ Some r.way
  pub count : value_of uses (codes "count") ≡ r.count
  pub exact : has_flag uses (codes "exact") ≡ r.exact
  pub zero : has_flag uses (codes "zero") ≡ r.zero
  pub matched : has_flag uses (codes "matched") ≡ r.matched
  pub format : r.format ≡ format_of (has_flag uses (codes "json"))
