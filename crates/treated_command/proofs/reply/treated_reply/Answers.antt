use Rattle.std.proofs.Common.{Bool, Some, IfOk, subst}
use Rattle.mixed_graph.specs.Vocabulary.{graph_of}
use Rattle.diagram.specs.Vocabulary.{query_lists}
use Rattle.replies.specs.declared.outcome.Reply.{Reply}
use Rattle.replies.specs.Vocabulary.{told_of}
use Rattle.told.specs.Vocabulary.{Tells}
use Rattle.treated_command.specs.Faults.{treated_refusal}
use Rattle.treated_command.specs.Requests.{request_of}
use Rattle.treated_command.specs.Right.{IsForNames}
use Rattle.treated_command.specs.Telling.{treated_telling}
use Rattle.treated_command.proofs.Replying.{tells}
use Rattle.treated_command.proofs.reply.treated_reply.Goals as goal

pub returns : goal.returns
returns c =
    let q = request_of c.args.asked.now in let d = c.args.diagram.now in
    let g = graph_of d.observed.graph in
    let lists = query_lists d.read d.observed.names q.x q.y (Some q.given) in
    subst (λ (k : Bool). IfOk c.reply.result (λ (p : Reply).
    Tells treated_telling treated_refusal (IsForNames k g lists) q.form d.observed.names p.outcome (told_of p))) c.is_certified.ensures
    (tells c.is_certified.result g lists c.args.asked.now.form d.observed.names c.treated_answer-answer.result c.treated_answer-answer.ensures.answer
    c.treated_answer-answer.ensures.fault c.reply.result c.reply.ensures.outcome c.reply.ensures.told c.reply.ensures.memory)
