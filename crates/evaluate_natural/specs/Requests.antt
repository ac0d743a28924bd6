-- What `evaluate --natural` is asked for.
use Rattle.std.specs.Prelude.{◌≡◌, Bool, true, false, List, Option, Some, None, codes, option_map}
use Rattle.command_words.specs.Vocabulary.{Text, Use, word_of, value_of, has_flag}
use Rattle.command_words.specs.Values as values
use Rattle.replies.specs.Vocabulary.{format_of}
use Rattle.told.specs.Vocabulary.{plain_form}
use Rattle.natural_command.specs.Requests as natural
use Rattle.evaluate_command.specs.Vocabulary.{evaluate_row}
use Rattle.paired_values.specs.Vocabulary.{HaveNoPlainFlag}
use Rattle.evaluate_natural.specs.declared.request.Request.{Request as CodeRequest}

-- a request: what `natural` is asked for, and over which counts
pub record Request : Type 0 where
  pub effect : natural.Request
  pub counts : Text
  pub count : Option Text
  pub exact : Bool

-- the request
abbrev pub request_of : CodeRequest → Request
request_of r = record {
  effect = natural.request_of r.effect;
  counts = r.counts.now;
  count = option_map (λ s. s.now) r.count;
  exact = r.exact;
}

-- nothing is asked for that isn't understood beside `--natural`
pub record AskNoOther (uses : List Use) : Type 0 where
  pub set : value_of uses (codes "set") ≡ None
  pub treated : has_flag uses (codes "treated") ≡ false
  pub flags : HaveNoPlainFlag uses

-- the uses ask for this
pub record IsRequest (uses : List Use) (r : Request) : Type 0 where
  pub natural : has_flag uses (codes "natural") ≡ true
  pub alone : AskNoOther uses
  pub file : word_of evaluate_row uses (codes "file") ≡ Some r.effect.file
  pub counts : word_of evaluate_row uses (codes "counts") ≡ Some r.counts
  pub inputs : values.AreTwoInputs r.effect.file r.counts
  pub x : values.IsListed (value_of uses (codes "x")) r.effect.x
  pub y : values.IsListed (value_of uses (codes "y")) r.effect.y
  pub through : values.IsRequiredList (value_of uses (codes "through")) r.effect.through
  pub given : values.IsListedOrEmpty (value_of uses (codes "given")) r.effect.given
  pub count : value_of uses (codes "count") ≡ r.count
  pub exact : has_flag uses (codes "exact") ≡ r.exact
  pub form : r.effect.form ≡ plain_form (format_of (has_flag uses (codes "json")))
