-- What each word does as words are read from the first to the last.
use Rattle.std.specs.Prelude.{◌&&◌, List, [], ◌∷◌, Option, Some, None, if◌then◌else◌, option_map}
use Rattle.clap.specs.Lexer.{long_of}
use Rattle.command_words.specs.Form.{Text, Row, Use, positional, apart, in_one, flag, is_value, is_positional, is_among, value_names}

-- what a word does: it ends a use, it is an option that waits for its value, or it has no place
pub data Step : Type 0 where
  used : Use → Step
  waits : Text → Step
  bad : Step

-- what `--x` and `--x=v` do
abbrev pub step_long : Row → Text → Option Text → Step
step_long row x None = if is_among (value_names row) x then waits x else (if is_among row.flags x then used (flag x) else bad)
step_long row x (Some v) = if is_among (value_names row) x && is_value v then used (in_one x v) else bad

-- what a word does that is no positional
abbrev pub step_dashed : Row → Option (Text × Option Text) → Step
step_dashed row None = bad
step_dashed row (Some p) = step_long row p.0 p.1

-- what a word does, where an option waits for its value or none does
abbrev pub step_word : Row → Option Text → Text → Step
step_word row (Some x) word = if is_value word then used (apart x word) else bad
step_word row None word = if is_positional word then used (positional word) else step_dashed row (long_of word)

-- one more use before these
abbrev pub with_use : Use → Option (List Use) → Option (List Use)
with_use u = option_map (λ us. u ∷ us)

-- what follows a word, where `next` says what the words after it give
abbrev pub after_step : Step → (Option Text → Option (List Use)) → Option (List Use)
after_step (used u) next = with_use u (next None)
after_step (waits x) next = next (Some x)
after_step bad next = None

-- at the end no option may wait for its value
abbrev pub at_end : Option Text → Option (List Use)
at_end None = Some []
at_end (Some x) = None

-- the uses of the words, where an option waits for its value or none does
unfoldable pub uses_of : Row → Option Text → List Text → Option (List Use)
uses_of row waiting [] = at_end waiting
uses_of row waiting (word ∷ words) = after_step (step_word row waiting word) (λ next. uses_of row next words)
