use Rattle.std.proofs.Common.{◌≡◌, drop, map}
use Rattle.command_words.specs.Vocabulary.{row_named}
use Rattle.causal_cli.specs.Commands.{table, row_for}
use Rattle.causal_cli.proofs.commands.command_named.Given as goal

abbrev pub invariant-loop-command : goal.invariant-loop-command
invariant-loop-command l = row_named table l.name ≡ row_named (map row_for (drop l.command-index l.command-items)) l.name
