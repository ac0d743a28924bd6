use Rattle.command_choice.specs.Choice.{one_of, second}
use Rattle.command_choice.proofs.OneOfTwo.{left_of_second}
use Rattle.evaluate_command.specs.Vocabulary.{evaluate_command}
use Rattle.evaluate_treated.specs.Vocabulary.{evaluate_treated_command}
use Rattle.evaluate_natural.specs.Requests.{request_of}
use Rattle.evaluate_natural.specs.Vocabulary.{nested_in, evaluate_natural_command, evaluate_natural_left}
use Rattle.evaluate_natural.proofs.Lawful.{evaluate_natural_is_left}
use Rattle.causal_cli.specs.Commands as all
use Rattle.causal_cli.specs.declared.request.Request.TheVariants.{EvaluateNatural}
use Rattle.causal_cli.proofs.request.evaluate_nested.Goals as goal

pub returns-in-Answered : goal.returns-in-Answered
returns-in-Answered c =
    let q = request_of c.args.asked in
    c.replied.ensures (all.request_of (EvaluateNatural c.args.asked)) c.args.diagram.now
    (c.first_reply.ensures q.effect (rw c.in-Answered.is at c.identify_nested.ensures))

pub returns : goal.returns
returns c =
    let d = c.args.diagram.now in let q = request_of c.args.asked in let e = nested_in d.observed c.in-Found.found in
    let l = evaluate_natural_left q.effect.form e q.counts q.count q.exact in
    left_of_second evaluate_command (one_of evaluate_treated_command evaluate_natural_command) (second q) d l
    (left_of_second evaluate_treated_command evaluate_natural_command q d l (evaluate_natural_is_left q d e (rw c.in-Found.is at c.identify_nested.ensures)))
