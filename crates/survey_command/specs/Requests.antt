-- What `survey` is asked for.
use Rattle.std.specs.Prelude.{ℕ, ◌≡◌, ◌-◌, ◌^◌, List, [], ◌∷◌, codes}
use Rattle.command_words.specs.Vocabulary.{Row, Use, word_of, has_flag}
use Rattle.command_words.specs.Values as values
use Rattle.replies.specs.declared.format.Format.{Format}
use Rattle.replies.specs.Vocabulary.{format_of}
use Rattle.survey_command.specs.declared.request.Request.{Request as CodeRequest}

-- `survey N [--json]`
abbrev pub survey_row : Row
survey_row = record { name = codes "survey"; positionals = codes "number" ∷ []; optional = []; required = []; options = []; flags = codes "json" ∷ [] }

-- a request
pub record Request : Type 0 where
  pub seed : ℕ
  pub format : Format

-- the request
abbrev pub request_of : CodeRequest → Request
request_of r = record { seed = r.seed; format = r.format }

-- the uses ask for this
pub record IsRequest (uses : List Use) (r : Request) : Type 0 where
  pub seed : values.IsRequiredNumber (word_of survey_row uses (codes "number")) 0 (2 ^ 64 - 1) r.seed
  pub format : r.format ≡ format_of (has_flag uses (codes "json"))
