use Rattle.std.proofs.Common.{◌≡◌, Some, IfOk, IfErr, subst, ap, ◌∙◌}
use Rattle.mixed_graph.specs.Vocabulary.{texts, graph_of}
use Rattle.targets.specs.Vocabulary.{Lists, IsListFault, OrMemory}
use Rattle.targets.proofs.Effects.{listed_outcome}
use Rattle.diagram.specs.Vocabulary.{Names, lent, query_lists}
use Rattle.diagram.proofs.Lent.{lent_owned}
use Rattle.treated_command.specs.Requests.{request_of}
use Rattle.treated_command.specs.Right.{IsForSets, IsOfSets, IsFaultOrMemory}
use Rattle.treated_command.proofs.Replying.{answer_of_lists, fault_of_lists}
use Rattle.treated_command.proofs.Sets.{three_sets}
use Rattle.treated_command.proofs.reply.treated_answer.Goals as goal
use Rattle.treated_command.proofs.reply.treated_answer.Goals.{After-asked_condition}

-- the lists that are lent
abbrev lists : After-asked_condition → Lists
lists c = query_lists c.args.diagram.now.read c.args.diagram.now.observed.names (lent c.as_deref-x.result) (lent c.as_deref-y.result)
    (Some (texts c.as_slice.result.now))

-- are those of the request
abbrev same : (c : After-asked_condition) → lists c ≡ (let q = request_of c.args.asked.now in
    query_lists c.args.diagram.now.read c.args.diagram.now.observed.names q.x q.y (Some q.given))
same c =
    let q = request_of c.args.asked.now in
    let by : Names → Names → Names → Lists = query_lists c.args.diagram.now.read c.args.diagram.now.observed.names in
    ap (λ (x : Names). by x (lent c.as_deref-y.result) (Some (texts c.as_slice.result.now))) (lent_owned _ _ c.as_deref-x.ensures.value)
    ∙ ap (λ (y : Names). by q.x y (Some (texts c.as_slice.result.now))) (lent_owned _ _ c.as_deref-y.ensures.value)
    ∙ ap (λ l. by q.x q.y (Some (texts l))) c.as_slice.ensures.value

pub decide-requires-clause-sets : goal.decide-requires-clause-sets
decide-requires-clause-sets c = three_sets _ c.args.diagram.now.observed.graph.n c.in-Ok.sets.x.bits c.in-Ok.sets.y.bits c.in-Ok.sets.given.bits
    c.args.diagram.now.observed.sized c.in-Ok.ensures.sets

pub decide-requires-clause-some : goal.decide-requires-clause-some
decide-requires-clause-some c = listed_outcome _ c.in-Ok.sets.x.bits c.in-Ok.sets.y.bits c.in-Ok.sets.given.bits c.in-Ok.ensures.sets

pub returns-in-Ok-clause-answer : goal.returns-in-Ok-clause-answer
returns-in-Ok-clause-answer c =
    let at = (goal.at.returns-in-Ok-clause-answer c).After-asked_condition in
    let g = graph_of c.args.diagram.now.observed.graph in
    subst (λ (l : Lists). IfOk c.decide.result (λ a. IsOfSets l (λ s. IsForSets c.args.certified g s a))) (same at)
    (answer_of_lists c.args.certified g (lists at) c.in-Ok.sets c.in-Ok.ensures.sets c.decide.result c.decide.ensures.answer)

pub returns-in-Ok-clause-fault : goal.returns-in-Ok-clause-fault
returns-in-Ok-clause-fault c =
    let at = (goal.at.returns-in-Ok-clause-fault c).After-asked_condition in
    let g = graph_of c.args.diagram.now.observed.graph in
    subst (λ (l : Lists). IfErr c.decide.result (IsFaultOrMemory g l)) (same at)
    (fault_of_lists g (lists at) c.in-Ok.sets c.in-Ok.ensures.sets c.decide.result c.decide.ensures.fault)

pub returns-in-Err-clause-fault : goal.returns-in-Err-clause-fault
returns-in-Err-clause-fault c =
    let at = (goal.at.returns-in-Err-clause-fault c).After-asked_condition in
    subst (λ (l : Lists). OrMemory (IsListFault l) c.in-Err.fault) (same at) c.in-Err.ensures.fault
