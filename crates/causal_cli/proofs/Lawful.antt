-- What holds of each command, as its own crate shows; and that each has a row of its own.
use Rattle.std.specs.Prelude.{◌≡◌, Option, Some, refl, find}
use Rattle.std.specs.Str.{bytes_eq}
use Rattle.std.proofs.Common.{sym, ap, ◌∙◌}
use Rattle.std.proofs.lemmas.Bool.{false≢true}
use Rattle.std.proofs.lemmas.Option.{same_Some}
use Rattle.command_words.specs.Vocabulary.{Text}
use Rattle.replies.proofs.Commands.{IsLawful}
use Rattle.separation_commands.proofs.GraphLawful.{graph_lawful}
use Rattle.separation_commands.proofs.SeparateLawful.{separate_lawful}
use Rattle.separation_commands.proofs.RuleLawful.{rule_lawful}
use Rattle.identify_command.proofs.Lawful.{identify_lawful}
use Rattle.part_check_command.proofs.Lawful.{part_check_lawful}
use Rattle.adjust_command.proofs.Lawful.{adjust_lawful}
use Rattle.evaluate_command.proofs.Lawful.{evaluate_lawful}
use Rattle.evaluate_command.specs.Vocabulary.{evaluate_command}
use Rattle.evaluate_treated.proofs.Lawful.{evaluate_treated_lawful}
use Rattle.evaluate_treated.specs.Vocabulary.{evaluate_treated_command}
use Rattle.evaluate_natural.proofs.Lawful.{evaluate_natural_lawful}
use Rattle.evaluate_natural.specs.Vocabulary.{evaluate_natural_command}
use Rattle.command_choice.specs.Choice.{OneOf, first, one_of, second, NoWordsAskBoth}
use Rattle.command_choice.proofs.OneOfTwo.{one_of_lawful}
use Rattle.equivalent_command.proofs.Lawful.{equivalent_lawful}
use Rattle.implications_command.proofs.Lawful.{implications_lawful}
use Rattle.survey_command.proofs.Lawful.{survey_lawful}
use Rattle.surrogate_command.proofs.Lawful.{surrogate_lawful}
use Rattle.bounds_command.proofs.Lawful.{bounds_lawful}
use Rattle.treated_command.proofs.Lawful.{treated_lawful}
use Rattle.instruments_command.proofs.Lawful.{instruments_lawful}
use Rattle.natural_command.proofs.Lawful.{natural_lawful}
use Rattle.steps_command.proofs.Lawful.{steps_lawful}
use Rattle.command_run.specs.Vocabulary.{AreApart, AreLawful}
use Rattle.causal_cli.specs.Commands.{commands, all_commands, row_for, form_of}
use Rattle.causal_cli.specs.declared.commands.Command.{Command}
use Rattle.causal_cli.specs.declared.commands.Command.TheVariants as command

-- the command of a name
abbrev named : Text → Option Command
named name = find (λ c. bytes_eq (row_for c).name name) all_commands

-- computed for each command: it stands in the list, and none before it has its name
by_its_name : (c : Command) → named (row_for c).name ≡ Some c
by_its_name command.Graph = refl
by_its_name c = refl

apart : AreApart commands
apart c d e = same_Some c d (sym (by_its_name c) ∙ ap (λ r. named r.name) e ∙ by_its_name d)

-- the words of `evaluate` ask for an effect as it is, or for one of two others
plain_or_other : NoWordsAskBoth evaluate_command (one_of evaluate_treated_command evaluate_natural_command)
plain_or_other uses q (first r) a b = false≢true (sym a.plain.treated ∙ b.treated)
plain_or_other uses q (second r) a b = false≢true (sym a.plain.natural ∙ b.natural)

each : (c : Command) → IsLawful (form_of c)
each command.Graph = graph_lawful
each command.Separate = separate_lawful
each command.Rule = rule_lawful
each command.Identify = identify_lawful
each command.Check = part_check_lawful
each command.Adjust = adjust_lawful
each command.Evaluate = one_of_lawful evaluate_command (one_of evaluate_treated_command evaluate_natural_command) evaluate_lawful
    (one_of_lawful evaluate_treated_command evaluate_natural_command evaluate_treated_lawful evaluate_natural_lawful
    (λ uses q r a b. false≢true (sym b.alone.treated ∙ a.treated)))
    plain_or_other
each command.Equivalent = equivalent_lawful
each command.Implications = implications_lawful
each command.Survey = survey_lawful
each command.Surrogate = surrogate_lawful
each command.Bounds = bounds_lawful
each command.Treated = treated_lawful
each command.Instruments = instruments_lawful
each command.Natural = natural_lawful
each command.Steps = steps_lawful

pub lawful : AreLawful commands
lawful = record { each = each; apart = apart; clear = refl }
