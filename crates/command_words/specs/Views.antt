-- What the code's values stand for.
use Rattle.std.specs.Prelude.{List, [], ◌∷◌, Option, Some, None, map, option_map, string_bytes, String, if◌then◌else◌}
use Rattle.std.specs.Option.{option_and_then}
use Rattle.std.specs.Global.{Vec}
use Rattle.std.specs.declared.alloc.Global.{Global}
use Rattle.std.specs.Borrow.{Bor}
use Rattle.command_words.specs.Form.{Text, Row, Use, positional, apart, in_one, flag, row_named, is_complete}
use Rattle.command_words.specs.Step as step
use Rattle.command_words.specs.declared.forms.Entry.{Entry}
use Rattle.command_words.specs.declared.forms.Used.{Used}
use Rattle.command_words.specs.declared.forms.Used.TheVariants as used
use Rattle.command_words.specs.declared.forms.Reading.{Reading}
use Rattle.command_words.specs.declared.forms.Reading.TheVariants as reading

-- the texts behind references
abbrev pub texts : List (Bor Text) → List Text
texts names = map (λ s. s.now) names

-- the texts of words
abbrev pub texts_of : List (String Global) → List Text
texts_of words = map (λ (w : String Global). string_bytes w) words

-- the row of an entry
abbrev pub row_of : Entry → Row
row_of e = record {
  name = e.name.now;
  positionals = texts e.positionals.now;
  optional = texts e.optional.now;
  required = texts e.required.now;
  options = texts e.options.now;
  flags = texts e.flags.now;
}

-- the use that is read
abbrev pub use_of : Used → Use
use_of (used.Positional w) = positional w.now
use_of (used.Apart x v) = apart x.now v.now
use_of (used.Joined x v) = in_one x.now v.now
use_of (used.Flag x) = flag x.now

-- the step that is read
abbrev pub step_of : Reading → step.Step
step_of (reading.Done u) = step.used (use_of u)
step_of (reading.Waits x) = step.waits x.now
step_of reading.Bad = step.bad

-- the option that waits for its value
abbrev pub waiting_of : Option (Bor Text) → Option Text
waiting_of = option_map (λ s. s.now)

-- the uses that are read
abbrev pub uses_in : Vec Used → List Use
uses_in uses = map use_of uses.items

-- the uses, where they are as many as the row asks
abbrev pub only_complete : Row → List Use → Option (List Use)
only_complete row uses = if is_complete row uses then Some uses else None

-- the uses that the words after the command are, with its row
abbrev pub call_by : Row → List Text → Option (Row × List Use)
call_by row words = option_map (λ uses. (row, uses)) (option_and_then (only_complete row) (step.uses_of row None words))

-- the row and the uses that the words are
abbrev pub call_of : List Row → List Text → Option (Row × List Use)
call_of table [] = None
call_of table (name ∷ words) = option_and_then (λ row. call_by row words) (row_named table name)
