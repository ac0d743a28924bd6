use Rattle.std.proofs.Common.{◌≡◌, drop, map}
use Rattle.std.specs.Prelude.{fold}
use Rattle.clap.specs.Simple.{app_of, with_rule}
use Rattle.clap.specs.declared.builder.command.Command.TheViews.{out-Command}
use Rattle.command_words.specs.Views.{texts}
use Rattle.command_words.specs.App.{kind_rule}
use Rattle.command_words.proofs.values.program.with_names.Given as goal

abbrev pub invariant-loop-name : goal.invariant-loop-name
invariant-loop-name l =
    (fold with_rule (app_of l.program) (map (kind_rule l.kind) (texts (drop l.name-index l.names)))
    ≡ fold with_rule (app_of l.fn.program) (map (kind_rule l.kind) (texts l.fn.names)))
    × ((out-Command l.program).has_globals ≡ (out-Command l.fn.program).has_globals)
