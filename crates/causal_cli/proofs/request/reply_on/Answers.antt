use Rattle.std.proofs.Common.{IfOk, sym, subst}
use Rattle.command_run.specs.Vocabulary.{GivesOn}
use Rattle.causal_cli.specs.Commands.{commands, request_of, left_of}
use Rattle.causal_cli.specs.declared.request.Request.TheVariants.{Graph, Separate, Rule, Identify, Adjust, Surrogate, Treated, Instruments, Natural}
use Rattle.causal_cli.proofs.request.reply_on.Goals as goal

pub returns-in-Graph : goal.returns-in-Graph
returns-in-Graph c = subst (λ q. IfOk c.replied.result (GivesOn (left_of c.args.diagram.now) commands (request_of q) c.args.diagram.now)) (sym c.in-Graph.is)
    (c.replied.ensures (request_of (Graph c.in-Graph.asked)) c.args.diagram.now c.graph_reply.ensures)

pub returns-in-Separate : goal.returns-in-Separate
returns-in-Separate c = subst (λ q. IfOk c.replied-in-Separate.result
    (GivesOn (left_of c.args.diagram.now) commands (request_of q) c.args.diagram.now)) (sym c.in-Separate.is)
    (c.replied-in-Separate.ensures (request_of (Separate c.in-Separate.asked)) c.args.diagram.now c.separate_reply.ensures)

pub returns-in-Rule : goal.returns-in-Rule
returns-in-Rule c = subst (λ q. IfOk c.replied-in-Rule.result (GivesOn (left_of c.args.diagram.now) commands (request_of q) c.args.diagram.now))
    (sym c.in-Rule.is)
    (c.replied-in-Rule.ensures (request_of (Rule c.in-Rule.asked)) c.args.diagram.now c.rule_reply.ensures)

pub returns-in-Identify : goal.returns-in-Identify
returns-in-Identify c = subst (λ q. IfOk c.replied-in-Identify.result
    (GivesOn (left_of c.args.diagram.now) commands (request_of q) c.args.diagram.now)) (sym c.in-Identify.is)
    (c.replied-in-Identify.ensures (request_of (Identify c.in-Identify.asked)) c.args.diagram.now c.identify_reply.ensures)

pub returns-in-Adjust : goal.returns-in-Adjust
returns-in-Adjust c = subst (λ q. IfOk c.replied-in-Adjust.result (GivesOn (left_of c.args.diagram.now) commands (request_of q) c.args.diagram.now))
    (sym c.in-Adjust.is)
    (c.replied-in-Adjust.ensures (request_of (Adjust c.in-Adjust.asked)) c.args.diagram.now c.adjust_reply.ensures)

pub returns-in-Surrogate : goal.returns-in-Surrogate
returns-in-Surrogate c = subst (λ q. IfOk c.replied-in-Surrogate.result
    (GivesOn (left_of c.args.diagram.now) commands (request_of q) c.args.diagram.now)) (sym c.in-Surrogate.is)
    (c.replied-in-Surrogate.ensures (request_of (Surrogate c.in-Surrogate.asked)) c.args.diagram.now c.surrogate_reply.ensures)

pub returns-in-Treated : goal.returns-in-Treated
returns-in-Treated c = subst (λ q. IfOk c.replied-in-Treated.result
    (GivesOn (left_of c.args.diagram.now) commands (request_of q) c.args.diagram.now)) (sym c.in-Treated.is)
    (c.replied-in-Treated.ensures (request_of (Treated c.in-Treated.asked)) c.args.diagram.now c.treated_reply.ensures)

pub returns-in-Instruments : goal.returns-in-Instruments
returns-in-Instruments c = subst (λ q. IfOk c.replied-in-Instruments.result
    (GivesOn (left_of c.args.diagram.now) commands (request_of q) c.args.diagram.now)) (sym c.in-Instruments.is)
    (c.replied-in-Instruments.ensures (request_of (Instruments c.in-Instruments.asked)) c.args.diagram.now c.instruments_reply.ensures)

pub returns-in-Natural : goal.returns-in-Natural
returns-in-Natural c = subst (λ q. IfOk c.replied-in-Natural.result
    (GivesOn (left_of c.args.diagram.now) commands (request_of q) c.args.diagram.now)) (sym c.in-Natural.is)
    (c.replied-in-Natural.ensures (request_of (Natural c.in-Natural.asked)) c.args.diagram.now c.natural_reply.ensures)
