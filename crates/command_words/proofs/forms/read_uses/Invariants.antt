use Rattle.std.proofs.Common.{◌≡◌, drop, map, None}
use Rattle.command_words.specs.Step.{uses_of}
use Rattle.command_words.specs.Views.{texts_of, use_of, row_of, waiting_of}
use Rattle.command_words.proofs.Loop.{prepend}
use Rattle.command_words.proofs.forms.read_uses.Given as goal

abbrev pub invariant-loop-word : goal.invariant-loop-word
invariant-loop-word l = uses_of (row_of l.row) None (texts_of l.fn.words)
    ≡ prepend (map use_of l.uses.items) (uses_of (row_of l.row) (waiting_of l.waiting) (texts_of (drop l.word-index l.words)))
