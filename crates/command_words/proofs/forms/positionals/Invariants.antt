use Rattle.std.proofs.Common.{◌≡◌, ◌≤◌, ◌+◌, drop, map, length}
use Rattle.command_words.specs.Form.{words_in}
use Rattle.command_words.specs.Views.{use_of}
use Rattle.command_words.proofs.forms.positionals.Given as goal

abbrev pub invariant-loop-used : goal.invariant-loop-used
invariant-loop-used l = (l.count ≤ l.used-index) × (length (words_in (map use_of l.fn.uses)) ≡ l.count
    + length (words_in (map use_of (drop l.used-index l.uses))))
