-- What `rule` is asked for.
use Rattle.std.specs.Prelude.{◌≡◌, List, Some, [], ◌∷◌, codes}
use Rattle.command_words.specs.Vocabulary.{Text, Row, Use, word_of, value_of, has_flag, names_in}
use Rattle.command_words.specs.Values as values
use Rattle.do_rules.specs.declared.rules.Rule.{Rule}
use Rattle.do_rules.specs.Vocabulary.{number_of}
use Rattle.replies.specs.declared.format.Format.{Format}
use Rattle.replies.specs.Vocabulary.{format_of}
use Rattle.separation_commands.specs.declared.rule.request.Request.{Request as CodeRequest}

-- `rule FILE --rule N --y L --z L [--do L] [--given L] [--json]`
abbrev pub rule_row : Row
rule_row = record {
  name = codes "rule";
  positionals = codes "file" ∷ [];
  optional = [];
  required = codes "rule" ∷ codes "y" ∷ codes "z" ∷ [];
  options = codes "do" ∷ codes "given" ∷ [];
  flags = codes "json" ∷ [];
}

-- a request
pub record Request : Type 0 where
  pub file : Text
  pub rule : Rule
  pub y : List Text
  pub x : List Text
  pub z : List Text
  pub given : List Text
  pub format : Format

-- the request
abbrev pub request_of : CodeRequest → Request
request_of r = record { file = r.file.now; rule = r.rule; y = names_in r.y; x = names_in r.x; z = names_in r.z; given = names_in r.given; format = r.format }

-- the uses ask for this
pub record IsRequest (uses : List Use) (r : Request) : Type 0 where
  pub file : word_of rule_row uses (codes "file") ≡ Some r.file
  pub rule : values.IsRequiredNumber (value_of uses (codes "rule")) 1 3 (number_of r.rule)
  pub y : values.IsRequiredList (value_of uses (codes "y")) r.y
  pub x : values.IsListedOrEmpty (value_of uses (codes "do")) r.x
  pub z : values.IsRequiredList (value_of uses (codes "z")) r.z
  pub given : values.IsListedOrEmpty (value_of uses (codes "given")) r.given
  pub format : r.format ≡ format_of (has_flag uses (codes "json"))
