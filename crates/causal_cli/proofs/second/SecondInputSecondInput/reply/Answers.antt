use Rattle.std.proofs.Common.{IfOk, sym, subst}
use Rattle.replies.specs.Vocabulary.{told_of}
use Rattle.causal_cli.specs.Commands.{left_of}
use Rattle.causal_cli.specs.declared.second.SecondInput.{SecondInput}
use Rattle.causal_cli.proofs.second.SecondInputSecondInput.reply.Goals as goal

pub returns-in-Check : goal.returns-in-Check
returns-in-Check c = subst (λ (it : SecondInput). IfOk c.check_reply.result
    (λ r. (left_of c.args.diagram.now it).answer c.args.other.now r.outcome (told_of r))) (sym c.in-Check.is) c.check_reply.ensures

pub returns-in-Evaluate : goal.returns-in-Evaluate
returns-in-Evaluate c = subst (λ (it : SecondInput). IfOk c.evaluate_reply.result
    (λ r. (left_of c.args.diagram.now it).answer c.args.other.now r.outcome (told_of r))) (sym c.in-Evaluate.is) c.evaluate_reply.ensures

pub returns-in-Equivalent : goal.returns-in-Equivalent
returns-in-Equivalent c = subst (λ (it : SecondInput). IfOk c.equivalent_reply.result
    (λ r. (left_of c.args.diagram.now it).answer c.args.other.now r.outcome (told_of r))) (sym c.in-Equivalent.is) c.equivalent_reply.ensures

pub returns-in-Implications : goal.returns-in-Implications
returns-in-Implications c = subst (λ (it : SecondInput). IfOk c.differences_reply.result
    (λ r. (left_of c.args.diagram.now it).answer c.args.other.now r.outcome (told_of r))) (sym c.in-Implications.is) c.differences_reply.ensures

pub returns-in-Steps : goal.returns-in-Steps
returns-in-Steps c = subst (λ (it : SecondInput). IfOk c.steps_reply.result
    (λ r. (left_of c.args.diagram.now it).answer c.args.other.now r.outcome (told_of r))) (sym c.in-Steps.is) c.steps_reply.ensures

pub returns-in-Bounds : goal.returns-in-Bounds
returns-in-Bounds c = subst (λ (it : SecondInput). IfOk c.bounds_reply.result
    (λ r. (left_of c.args.diagram.now it).answer c.args.other.now r.outcome (told_of r))) (sym c.in-Bounds.is) c.bounds_reply.ensures

pub returns-in-EvaluateTreated : goal.returns-in-EvaluateTreated
returns-in-EvaluateTreated c = subst (λ (it : SecondInput). IfOk c.among_reply.result
    (λ r. (left_of c.args.diagram.now it).answer c.args.other.now r.outcome (told_of r))) (sym c.in-EvaluateTreated.is) c.among_reply.ensures

pub returns-in-EvaluateNatural : goal.returns-in-EvaluateNatural
returns-in-EvaluateNatural c = subst (λ (it : SecondInput). IfOk c.nested_reply.result
    (λ r. (left_of c.args.diagram.now it).answer c.args.other.now r.outcome (told_of r))) (sym c.in-EvaluateNatural.is) c.nested_reply.ensures
