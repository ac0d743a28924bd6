use Rattle.std.proofs.Common.{◌≡◌, Some, List, ℕ, ap, subst, ◌∙◌}
use Rattle.std.proofs.lemmas.Result.{err_from_is_err_and}
use Rattle.mixed_graph.specs.Vocabulary.{texts, graph_of}
use Rattle.targets.specs.Vocabulary.{Lists, AreSets, IsTargetFault, OrMemory}
use Rattle.targets.proofs.Effects.{query_exposure}
use Rattle.diagram.specs.Vocabulary.{Names, lent, query_lists}
use Rattle.diagram.proofs.Lent.{lent_owned}
use Rattle.adjust_command.specs.Queries.{adjust_lists}
use Rattle.adjust_command.specs.Queries.{query_of}
use Rattle.adjust_command.specs.Requests.{request_of}
use Rattle.adjust_command.proofs.Faults.{listed_fault, answer_of_sets, fault_of_sets}
use Rattle.adjust_command.proofs.Lists.{three_sets}
use Rattle.adjust_command.proofs.Ranges.{in_range}
use Rattle.adjust_command.proofs.reply.adjust_answer.Goals as goal
use Rattle.adjust_command.proofs.reply.adjust_answer.Goals.{After-asked_query}

-- the lists that are lent
abbrev lists : After-asked_query → Lists
lists c = query_lists c.args.diagram.now.read c.args.diagram.now.observed.names (lent c.as_deref-x.result) (lent c.as_deref-y.result)
    (Some (texts c.set_of-set.result.now))

-- are those of the request
abbrev same : (c : After-asked_query) → lists c ≡ (let q = request_of c.args.asked.now in
    adjust_lists c.args.diagram.now.read c.args.diagram.now.observed.names q.x q.y q.query)
same c =
    let lists_by : Names → Names → List (List ℕ) → Lists =
    λ x y set. query_lists c.args.diagram.now.read c.args.diagram.now.observed.names x y (Some set) in
    let q = request_of c.args.asked.now in
    ap (λ (x : Names). lists_by x (lent c.as_deref-y.result) (texts c.set_of-set.result.now)) (lent_owned _ _ c.as_deref-x.ensures.value)
    ∙ ap (λ (y : Names). lists_by q.x y (texts c.set_of-set.result.now)) (lent_owned _ _ c.as_deref-y.ensures.value)
    ∙ ap (λ (set : List (List ℕ)). lists_by q.x q.y set) c.set_of-set.ensures

pub decide-requires-clause-sets : goal.decide-requires-clause-sets
decide-requires-clause-sets c = three_sets _ c.args.diagram.now.observed.graph.n c.in_ok-sets.sets.x.bits c.in_ok-sets.sets.y.bits
    c.in_ok-sets.sets.given.bits c.args.diagram.now.observed.sized c.in_ok-sets.ensures.sets

pub decide-requires-clause-some : goal.decide-requires-clause-some
decide-requires-clause-some c = query_exposure _ c.in_ok-sets.sets.x.bits c.in_ok-sets.sets.y.bits c.in_ok-sets.sets.given.bits c.in_ok-sets.ensures.sets

pub decide-requires-clause-most : goal.decide-requires-clause-most
decide-requires-clause-most c = in_range (query_of c.args.asked.now.query) c.args.asked.now.range

pub returns-in_err-sets-clause-fault : goal.returns-in_err-sets-clause-fault
returns-in_err-sets-clause-fault c =
    let at = (goal.at.returns-in_err-sets-clause-fault c).After-asked_query in
    let p = err_from_is_err_and c.from_residual.result c.from_residual.ensures.1 in
    let q = request_of c.args.asked.now in let fault = c.in_err-sets.field-0.0 in
    rw (p.1, p.2) (listed_fault q.query (adjust_lists c.args.diagram.now.read c.args.diagram.now.observed.names q.x q.y q.query) fault
    (subst (λ (l : Lists). OrMemory (IsTargetFault l) fault) (same at) c.in_err-sets.ensures.fault))

pub returns-clause-answer : goal.returns-clause-answer
returns-clause-answer c =
    let at = (goal.at.returns-clause-answer c).After-asked_query in
    let s = c.in_ok-sets.sets in
    answer_of_sets (query_of c.args.asked.now.query) (graph_of c.args.diagram.now.observed.graph) _ s
    (subst (λ (l : Lists). AreSets l s.x.bits s.y.bits s.given.bits) (same at) c.in_ok-sets.ensures.sets) c.decide.result c.decide.ensures.answer

pub returns-clause-fault : goal.returns-clause-fault
returns-clause-fault c =
    let at = (goal.at.returns-clause-fault c).After-asked_query in
    let s = c.in_ok-sets.sets in
    fault_of_sets (query_of c.args.asked.now.query) (graph_of c.args.diagram.now.observed.graph) _ s
    (subst (λ (l : Lists). AreSets l s.x.bits s.y.bits s.given.bits) (same at) c.in_ok-sets.ensures.sets) c.decide.result c.decide.ensures.fault
