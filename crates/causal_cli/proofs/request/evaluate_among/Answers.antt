use Rattle.command_choice.specs.Choice.{first, one_of}
use Rattle.command_choice.proofs.OneOfTwo.{left_of_first, left_of_second}
use Rattle.evaluate_command.specs.Vocabulary.{evaluate_command}
use Rattle.evaluate_natural.specs.Vocabulary.{evaluate_natural_command}
use Rattle.evaluate_treated.specs.Requests.{request_of}
use Rattle.evaluate_treated.specs.Vocabulary.{among_in, evaluate_treated_command, evaluate_treated_left}
use Rattle.evaluate_treated.proofs.Lawful.{evaluate_treated_is_left}
use Rattle.causal_cli.specs.Commands as all
use Rattle.causal_cli.specs.declared.request.Request.TheVariants.{EvaluateTreated}
use Rattle.causal_cli.proofs.request.evaluate_among.Goals as goal

pub returns-in-Answered : goal.returns-in-Answered
returns-in-Answered c =
    let q = request_of c.args.asked in
    c.replied.ensures (all.request_of (EvaluateTreated c.args.asked)) c.args.diagram.now
    (c.first_reply.ensures q.effect (rw c.in-Answered.is at c.identify_among.ensures))

pub returns : goal.returns
returns c =
    let d = c.args.diagram.now in let q = request_of c.args.asked in let e = among_in d.observed c.in-Found.found in
    let way = c.in-Found.found.way in let is = rw c.in-Found.is at c.identify_among.ensures in
    let l = evaluate_treated_left q.effect.form e way q.counts q.count q.exact in
    left_of_second evaluate_command (one_of evaluate_treated_command evaluate_natural_command) (first q) d l
    (left_of_first evaluate_treated_command evaluate_natural_command q d l (evaluate_treated_is_left q d e way is.0 is.1))
