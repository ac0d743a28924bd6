use Rattle.std.proofs.Common.{◌≡◌, drop, []}
use Rattle.command_words.specs.Walk.{names_of}
use Rattle.command_words.specs.ListViews.{names_in}
use Rattle.command_words.specs.declared.lists.Position.TheVariants.{Due}
use Rattle.command_words.proofs.ListLoop.{prepend}
use Rattle.command_words.proofs.lists.read_names.Given as goal

abbrev pub invariant-loop-byte : goal.invariant-loop-byte
invariant-loop-byte l = names_of Due [] l.fn.text ≡ prepend (names_in l.names) (names_of l.place l.name.items (drop l.byte-index l.text))
