-- The words of `steps`.
use Rattle.std.specs.Prelude.{codes}
use Rattle.command_words.specs.Vocabulary.{Row}
use Rattle.check_command.specs.Vocabulary.{certificate_row}

-- `steps FILE CERTIFICATE [--experiments E] [--json]`
abbrev pub steps_row : Row
steps_row = certificate_row (codes "steps")
