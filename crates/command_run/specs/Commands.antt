-- The commands of a program: one list, and of each its row and what it is, which stands in its own crate; and when words ask for a request.
use Rattle.std.specs.Prelude.{◌≡◌, List, Option, map}
use Rattle.command_words.specs.Vocabulary.{Text, Row, Use, IsCall, AsksBy}
use Rattle.replies.specs.declared.format.Format.{Format}
use Rattle.replies.specs.Vocabulary.{CommandForm}
use Rattle.replies.specs.Command as forms

-- The commands: all of them in the order of the table, and of each its row, and what it is asked for and what it answers; and the names that are told
-- where words ask for nothing.
pub record CommandSet : Type 1 where
  pub Command : Type 0
  pub all : List Command
  pub row_for : Command → Row
  pub form_of : Command → CommandForm
  pub names : List Text

-- the table of the commands
abbrev pub table : CommandSet → List Row
table s = map s.row_for s.all

-- what words ask for: a command, and what it is asked for
pub data Request (s : CommandSet) : Type 0 where
  of : (c : s.Command) → (s.form_of c).Request → Request s

-- its command
abbrev pub command_of : (s : CommandSet) → Request s → s.Command
command_of s (of c q) = c

-- its file, where it has one
abbrev pub file_of : (s : CommandSet) → Request s → Option Text
file_of s (of c q) = (s.form_of c).file q

-- its second input, where it has one
abbrev pub second_of : (s : CommandSet) → Request s → Option Text
second_of s (of c q) = (s.form_of c).second q

-- the format of its answer
abbrev pub format_of : (s : CommandSet) → Request s → Format
format_of s (of c q) = (s.form_of c).format q

-- its answers on both inputs have one outcome
abbrev pub IsFixed : (s : CommandSet) → Request s → Type 0
IsFixed s (of c q) = (s.form_of c).is_fixed q

-- the uses of its command ask for it
abbrev pub IsRequest : (s : CommandSet) → List Use → Request s → Type 0
IsRequest s uses (of c q) = (s.form_of c).asks uses q

-- the uses ask the command for nothing
abbrev pub AsksNothing : (s : CommandSet) → s.Command → List Use → Type 0
AsksNothing s c uses = forms.AsksNothing (s.form_of c) uses

-- the words ask for this: they are a call of its command, whose uses give the request
abbrev pub Asks : (s : CommandSet) → List Text → Request s → Type 0
Asks s = AsksBy (table s) (λ q. s.row_for (command_of s q)) (IsRequest s)

-- words that ask for something ask for its answer in this format
abbrev pub HasFormat : (s : CommandSet) → List Text → Format → Type 0
HasFormat s words format = (q : Request s) → Asks s words q → format_of s q ≡ format

-- words are one call at most
abbrev pub AskOnce : CommandSet → List Text → Type 0
AskOnce s words = (row other : Row) (uses others : List Use) → IsCall (table s) words row uses → IsCall (table s) words other others → (other ≡ row)
    × (others ≡ uses)

-- each command has a row of its own
abbrev pub AreApart : CommandSet → Type 0
AreApart s = (c d : s.Command) → s.row_for c ≡ s.row_for d → c ≡ d
