use Rattle.std.proofs.Common.{◌≡◌, ℕ, List, IfOk, IfErr, subst, ap, ◌∙◌}
use Rattle.mixed_graph.specs.Vocabulary.{texts, graph_of}
use Rattle.targets.proofs.Effects.{query_exposure, query_outcome}
use Rattle.diagram.specs.Vocabulary.{Names, lent}
use Rattle.diagram.proofs.Lent.{lent_owned}
use Rattle.natural_command.specs.Asking.{NaturalLists, natural_lists}
use Rattle.natural_command.specs.Requests.{request_of}
use Rattle.natural_command.specs.Right.{IsForQuestion, IsOfQuestion, IsFaultOrMemory}
use Rattle.natural_command.proofs.Naming.{four_sets, some_mediator}
use Rattle.natural_command.proofs.Replying.{of_names, answer_of_lists, fault_of_lists}
use Rattle.natural_command.proofs.reply.natural_answer.Goals as goal
use Rattle.natural_command.proofs.reply.natural_answer.Goals.{After-question_of}

-- the lists that are lent
abbrev lists : After-question_of → NaturalLists
lists c = natural_lists c.args.diagram.now (lent c.as_deref-x.result) (lent c.as_deref-y.result) (texts c.as_slice-through.result.now)
    (texts c.as_slice-given.result.now)

-- are those of the request
abbrev same : (c : After-question_of) → lists c ≡ (let r = request_of c.args.asked.now in natural_lists c.args.diagram.now r.x r.y r.through r.given)
same c =
    let r = request_of c.args.asked.now in
    let by : Names → Names → List (List ℕ) → List (List ℕ) → NaturalLists = natural_lists c.args.diagram.now in
    ap (λ (x : Names). by x (lent c.as_deref-y.result) (texts c.as_slice-through.result.now) (texts c.as_slice-given.result.now))
    (lent_owned _ _ c.as_deref-x.ensures.value)
    ∙ ap (λ (y : Names). by r.x y (texts c.as_slice-through.result.now) (texts c.as_slice-given.result.now)) (lent_owned _ _ c.as_deref-y.ensures.value)
    ∙ ap (λ l. by r.x r.y (texts l) (texts c.as_slice-given.result.now)) c.as_slice-through.ensures.value
    ∙ ap (λ l. by r.x r.y r.through (texts l)) c.as_slice-given.ensures.value

pub decide-requires-clause-sets : goal.decide-requires-clause-sets
decide-requires-clause-sets c =
    four_sets (lists (goal.at.decide-requires-clause-sets c).After-question_of) c.in-Ok.question c.in-Ok.ensures.question c.args.diagram.now.observed.graph.n
    c.args.diagram.now.observed.sized

pub decide-requires-clause-some : goal.decide-requires-clause-some
decide-requires-clause-some c =
    let q = c.in-Ok.question in query_exposure _ q.x.bits q.y.bits q.given.bits c.in-Ok.ensures.question.query

pub decide-requires-clause-outcome : goal.decide-requires-clause-outcome
decide-requires-clause-outcome c =
    let q = c.in-Ok.question in query_outcome _ q.x.bits q.y.bits q.given.bits c.in-Ok.ensures.question.query

pub decide-requires-clause-mediator : goal.decide-requires-clause-mediator
decide-requires-clause-mediator c =
    some_mediator (lists (goal.at.decide-requires-clause-mediator c).After-question_of) c.in-Ok.question c.in-Ok.ensures.question

pub returns-in-Ok-clause-answer : goal.returns-in-Ok-clause-answer
returns-in-Ok-clause-answer c =
    let at = (goal.at.returns-in-Ok-clause-answer c).After-question_of in
    let g = graph_of c.args.diagram.now.observed.graph in
    subst (λ (l : NaturalLists). IfOk c.decide.result (λ a. IsOfQuestion l (λ q. IsForQuestion c.args.certified g q a))) (same at)
    (answer_of_lists c.args.certified g (lists at) c.in-Ok.question c.in-Ok.ensures.question c.decide.result c.decide.ensures.answer)

pub returns-in-Ok-clause-fault : goal.returns-in-Ok-clause-fault
returns-in-Ok-clause-fault c =
    let at = (goal.at.returns-in-Ok-clause-fault c).After-question_of in
    let g = graph_of c.args.diagram.now.observed.graph in
    subst (λ (l : NaturalLists). IfErr c.decide.result (IsFaultOrMemory g l)) (same at)
    (fault_of_lists g (lists at) c.in-Ok.question c.in-Ok.ensures.question c.decide.result c.decide.ensures.fault)

pub returns-in-Err-clause-fault : goal.returns-in-Err-clause-fault
returns-in-Err-clause-fault c =
    let at = (goal.at.returns-in-Err-clause-fault c).After-question_of in
    let g = graph_of c.args.diagram.now.observed.graph in
    subst (λ (l : NaturalLists). IsFaultOrMemory g l c.in-Err.fault) (same at) (of_names g (lists at) c.in-Err.fault c.in-Err.ensures.fault)
