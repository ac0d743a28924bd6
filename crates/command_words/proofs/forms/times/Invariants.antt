use Rattle.std.proofs.Common.{◌≡◌, ◌≤◌, ◌+◌, drop, map}
use Rattle.command_words.specs.Form.{times}
use Rattle.command_words.specs.Views.{use_of}
use Rattle.command_words.proofs.forms.times.Given as goal

abbrev pub invariant-loop-used : goal.invariant-loop-used
invariant-loop-used l = (l.count ≤ l.used-index) × (times (map use_of l.fn.uses) l.name ≡ l.count + times (map use_of (drop l.used-index l.uses)) l.name)
