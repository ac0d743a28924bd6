use Rattle.std.proofs.Common.{◌≡◌, drop}
use Rattle.command_words.specs.Form.{is_among}
use Rattle.command_words.specs.Views.{texts}
use Rattle.command_words.proofs.forms.is_among.Given as goal

abbrev pub invariant-loop-name : goal.invariant-loop-name
invariant-loop-name l = is_among (texts l.fn.names) l.word ≡ is_among (texts (drop l.name-index l.names)) l.word
