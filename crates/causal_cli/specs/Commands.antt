-- The commands: one list, and of each what it is, which stands in its own crate; and what the code's values stand for.
use Rattle.std.specs.Prelude.{List, [], ◌∷◌, map, option_map}
use Rattle.command_words.specs.Vocabulary.{Row}
use Rattle.diagram.specs.declared.diagram.Diagram.{Diagram}
use Rattle.replies.specs.Vocabulary.{CommandForm, Remainder}
use Rattle.command_run.specs.Vocabulary.{CommandSet, Request, of}
use Rattle.separation_commands.specs.Vocabulary.{graph_command, separate_command, rule_command}
use Rattle.separation_commands.specs.GraphRequests as of_graph
use Rattle.separation_commands.specs.SeparateRequests as of_separate
use Rattle.separation_commands.specs.RuleRequests as of_rule
use Rattle.identify_command.specs.Vocabulary.{identify_command}
use Rattle.identify_command.specs.Requests as of_identify
use Rattle.part_check_command.specs.Vocabulary.{part_check_command, part_check_left}
use Rattle.check_command.specs.Requests as of_check
use Rattle.adjust_command.specs.Vocabulary.{adjust_command}
use Rattle.adjust_command.specs.Requests as of_adjust
use Rattle.evaluate_command.specs.Vocabulary.{evaluate_command, evaluate_left, effect_in}
use Rattle.evaluate_command.specs.Requests as of_evaluate
use Rattle.evaluate_treated.specs.Vocabulary.{among_in, evaluate_treated_command, evaluate_treated_left}
use Rattle.evaluate_treated.specs.Requests as of_evaluate_treated
use Rattle.evaluate_natural.specs.Vocabulary.{nested_in, evaluate_natural_command, evaluate_natural_left}
use Rattle.evaluate_natural.specs.Requests as of_evaluate_natural
use Rattle.command_choice.specs.Choice as choice
use Rattle.equivalent_command.specs.Vocabulary.{equivalent_command, equivalent_left}
use Rattle.equivalent_command.specs.Requests as of_equivalent
use Rattle.implications_command.specs.Vocabulary.{implications_command, implications_left}
use Rattle.implications_command.specs.Requests as of_implications
use Rattle.survey_command.specs.Vocabulary.{survey_command}
use Rattle.survey_command.specs.Requests as of_survey
use Rattle.surrogate_command.specs.Vocabulary.{surrogate_command}
use Rattle.surrogate_command.specs.Requests as of_surrogate
use Rattle.bounds_command.specs.Vocabulary.{bounds_command, bounds_left}
use Rattle.bounds_command.specs.Requests as of_bounds
use Rattle.treated_command.specs.Vocabulary.{treated_command}
use Rattle.treated_command.specs.Requests as of_treated
use Rattle.instruments_command.specs.Vocabulary.{instruments_command}
use Rattle.instruments_command.specs.Requests as of_instruments
use Rattle.natural_command.specs.Vocabulary.{natural_command}
use Rattle.natural_command.specs.Requests as of_natural
use Rattle.steps_command.specs.Vocabulary.{steps_command, steps_left}
use Rattle.steps_command.specs.Requests as of_steps
use Rattle.prob_expr.specs.Vocabulary.{masks_of}
use Rattle.causal_cli.specs.declared.commands.Command.{Command}
use Rattle.causal_cli.specs.declared.commands.Command.TheVariants as command
use Rattle.causal_cli.specs.declared.request.Request.{Request as CodeRequest}
use Rattle.causal_cli.specs.declared.request.Request.TheVariants as request
use Rattle.causal_cli.specs.declared.second.SecondInput.{SecondInput}
use Rattle.causal_cli.specs.declared.second.SecondInput.TheVariants as input

-- ---- each command

-- all commands, in the order of the table
abbrev pub all_commands : List Command
all_commands = command.Graph ∷ command.Separate ∷ command.Rule ∷ command.Identify ∷ command.Check ∷ command.Adjust ∷ command.Evaluate ∷ command.Equivalent
    ∷ command.Survey ∷ command.Implications ∷ command.Surrogate ∷ command.Bounds ∷ command.Treated
    ∷ command.Instruments ∷ command.Natural ∷ command.Steps ∷ []

-- the row of a command
abbrev pub row_for : Command → Row
row_for command.Graph = of_graph.graph_row
row_for command.Separate = of_separate.separate_row
row_for command.Rule = of_rule.rule_row
row_for command.Identify = of_identify.identify_row
row_for command.Check = of_check.check_row
row_for command.Adjust = of_adjust.adjust_row
row_for command.Evaluate = of_evaluate.evaluate_row
row_for command.Equivalent = of_equivalent.equivalent_row
row_for command.Survey = of_survey.survey_row
row_for command.Implications = of_implications.implications_row
row_for command.Surrogate = of_surrogate.surrogate_row
row_for command.Bounds = of_bounds.bounds_row
row_for command.Treated = of_treated.treated_row
row_for command.Instruments = of_instruments.instruments_row
row_for command.Natural = of_natural.natural_row
row_for command.Steps = of_steps.steps_row

-- the table of commands
abbrev pub table : List Row
table = map row_for all_commands

-- what a command is asked for, and what it answers
abbrev pub form_of : Command → CommandForm
form_of command.Graph = graph_command
form_of command.Separate = separate_command
form_of command.Rule = rule_command
form_of command.Identify = identify_command
form_of command.Check = part_check_command
form_of command.Adjust = adjust_command
form_of command.Evaluate = choice.one_of evaluate_command (choice.one_of evaluate_treated_command evaluate_natural_command)
form_of command.Equivalent = equivalent_command
form_of command.Survey = survey_command
form_of command.Implications = implications_command
form_of command.Surrogate = surrogate_command
form_of command.Bounds = bounds_command
form_of command.Treated = treated_command
form_of command.Instruments = instruments_command
form_of command.Natural = natural_command
form_of command.Steps = steps_command

-- the commands, with their names where words ask for nothing
abbrev pub commands : CommandSet
commands = record { Command = Command; all = all_commands; row_for = row_for; form_of = form_of; names = map (λ row. row.name) table }

-- ---- what the code's values stand for

-- a request
abbrev pub request_of : CodeRequest → Request commands
request_of (request.Graph q) = of command.Graph (of_graph.request_of q)
request_of (request.Separate q) = of command.Separate (of_separate.request_of q)
request_of (request.Rule q) = of command.Rule (of_rule.request_of q)
request_of (request.Identify q) = of command.Identify (of_identify.request_of q)
request_of (request.Check q) = of command.Check (of_check.request_of q)
request_of (request.Adjust q) = of command.Adjust (of_adjust.request_of q)
request_of (request.Evaluate q) = of command.Evaluate (choice.first (of_evaluate.request_of q))
request_of (request.EvaluateTreated q) = of command.Evaluate (choice.second (choice.first (of_evaluate_treated.request_of q)))
request_of (request.EvaluateNatural q) = of command.Evaluate (choice.second (choice.second (of_evaluate_natural.request_of q)))
request_of (request.Equivalent q) = of command.Equivalent (of_equivalent.request_of q)
request_of (request.Implications q) = of command.Implications (of_implications.request_of q)
request_of (request.Survey q) = of command.Survey (of_survey.request_of q)
request_of (request.Surrogate q) = of command.Surrogate (of_surrogate.request_of q)
request_of (request.Bounds q) = of command.Bounds (of_bounds.request_of q)
request_of (request.Treated q) = of command.Treated (of_treated.request_of q)
request_of (request.Instruments q) = of command.Instruments (of_instruments.request_of q)
request_of (request.Natural q) = of command.Natural (of_natural.request_of q)
request_of (request.Steps q) = of command.Steps (of_check.request_of q)

-- what is left to answer on a diagram
abbrev pub left_of : Diagram → SecondInput → Remainder
left_of d (input.Check experiments certificate format) = part_check_left format d (masks_of experiments.items) certificate.now
left_of d (input.Evaluate found counts count exact zero matched format) =
    evaluate_left format (effect_in d.observed found) counts.now (option_map (λ s. s.now) count) exact zero matched
left_of d (input.EvaluateTreated found counts count exact form) =
    evaluate_treated_left form (among_in d.observed found) found.way counts.now (option_map (λ s. s.now) count) exact
left_of d (input.EvaluateNatural found counts count exact form) =
    evaluate_natural_left form (nested_in d.observed found) counts.now (option_map (λ s. s.now) count) exact
left_of d (input.Equivalent sets second format) = equivalent_left format d sets second.now
left_of d (input.Implications pairs counts count format) = implications_left format d pairs.items counts.now (option_map (λ s. s.now) count)
left_of d (input.Bounds question counts count exact format) = bounds_left format d.observed question counts.now (option_map (λ s. s.now) count) exact
left_of d (input.Steps experiments certificate format) = steps_left format d (masks_of experiments.items) certificate.now
