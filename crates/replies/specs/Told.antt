-- What is told as an answer: a text, or a line of JSON in its place; of a refusal its line, and its object besides.
use Rattle.std.specs.Prelude.{ℕ, Bool, true, false, List, []}
use Rattle.replies.specs.declared.format.Format.{Format}
use Rattle.replies.specs.declared.format.Format.TheVariants.{Text, Json}
use Rattle.replies.specs.declared.outcome.Reply.{Reply}

-- the format, by whether `--json` is there
abbrev pub format_of : Bool → Format
format_of true = Json
format_of false = Text

-- a text, or in its place an object as a line of JSON
abbrev pub text_in : Format → (text object : List ℕ) → List ℕ
text_in Text text object = text
text_in Json text object = object

-- the text of an answer, or the line of a refusal; and of a refusal its object as a line of JSON
pub record Told : Type 0 where
  pub text : List ℕ
  pub object : List ℕ

-- an answer: its text, in the format that is asked for
abbrev pub answer_of : (text : List ℕ) → Told
answer_of text = record { text = text; object = [] }

-- a refusal: the line of what is wrong, and its object
abbrev pub refusal_of : (line object : List ℕ) → Told
refusal_of line object = record { text = line; object = object }

-- what a reply tells
abbrev pub told_of : Reply → Told
told_of r = record { text = r.text.items; object = r.object.items }
