use Rattle.std.proofs.Common.{◌≡◌, ◌++◌, drop}
use Rattle.instruments_command.specs.Lines.{listing_text}
use Rattle.instruments_command.proofs.texts.push_all.Given as goal

abbrev pub invariant-loop-c : goal.invariant-loop-c
invariant-loop-c l = record { told : l.out.items ++ listing_text l.names (drop l.c-index l.list) ≡ l.fn.out.items ++ listing_text l.names l.list }
