-- `clap` reads each row of the table by itself: what it makes of the row is computed.
use Rattle.std.proofs.Common.{[], ◌∷◌, refl}
use Rattle.command_words.specs.Vocabulary.{IsReadable, AreReadable}
use Rattle.command_words.proofs.Alone.{each_named}
use Rattle.command_words.proofs.Tables.{readable}
use Rattle.causal_cli.specs.Commands.{all_commands, row_for, table}
use Rattle.causal_cli.specs.declared.commands.Command.{Command}
use Rattle.causal_cli.specs.declared.commands.Command.TheVariants as command

-- computed for each command
by_itself : (c : Command) → IsReadable (row_for c ∷ [])
by_itself command.Graph =
    readable (row_for command.Graph ∷ []) refl refl (record { defaults = refl; valid = refl }) refl (λ words. refl) (λ words. refl)
by_itself c = readable (row_for c ∷ []) refl refl (record { defaults = refl; valid = refl }) refl (λ words. refl) (λ words. refl)

pub table_readable : AreReadable table
table_readable = record { clear = refl; each = λ row. each_named row_for (λ r. IsReadable (r ∷ [])) by_itself all_commands row.name row }
