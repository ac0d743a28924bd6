-- What holds of the commands of each program.
use Rattle.std.specs.Prelude.{◌≡◌, true}
use Rattle.std.specs.List.{list_all}
use Rattle.command_words.specs.Vocabulary.{is_clear}
use Rattle.replies.proofs.Commands.{IsLawful}
use Rattle.command_run.specs.Commands.{CommandSet, table, AreApart}

-- each command is asked for one thing, and its answers have one outcome; each has a row of its own; and no word of the table has two meanings
pub record AreLawful (s : CommandSet) : Type 0 where
  pub each : (c : s.Command) → IsLawful (s.form_of c)
  pub apart : AreApart s
  pub clear : list_all is_clear (table s) ≡ true
