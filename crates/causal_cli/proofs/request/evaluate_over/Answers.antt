use Rattle.command_choice.proofs.OneOfTwo.{left_of_first}
use Rattle.evaluate_command.specs.Vocabulary.{effect_in, evaluate_command, evaluate_left, request_of}
use Rattle.evaluate_command.proofs.Lawful.{evaluate_is_left}
use Rattle.command_choice.specs.Choice.{one_of}
use Rattle.evaluate_natural.specs.Vocabulary.{evaluate_natural_command}
use Rattle.evaluate_treated.specs.Vocabulary.{evaluate_treated_command}
use Rattle.causal_cli.specs.Commands as all
use Rattle.causal_cli.specs.declared.request.Request.TheVariants.{Evaluate}
use Rattle.causal_cli.proofs.request.evaluate_over.Goals as goal

pub returns-in-Answered : goal.returns-in-Answered
returns-in-Answered c =
    let q = request_of c.args.asked in
    c.replied.ensures (all.request_of (Evaluate c.args.asked)) c.args.diagram.now
    (c.first_reply.ensures q.way q.x q.y (rw c.in-Answered.is at c.identify_first.ensures))

pub returns : goal.returns
returns c =
    let d = c.args.diagram.now in let q = request_of c.args.asked in let e = effect_in d.observed c.in-Found.found in
    left_of_first evaluate_command (one_of evaluate_treated_command evaluate_natural_command) q d (evaluate_left q.format e q.counts q.count q.exact q.zero q.matched)
    (evaluate_is_left q d e (rw c.in-Found.is at c.identify_first.ensures))
