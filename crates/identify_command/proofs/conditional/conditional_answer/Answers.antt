use Rattle.std.proofs.Common.{◌≡◌, Bool, Some, subst, ap, ◌∙◌}
use Rattle.mixed_graph.specs.Vocabulary.{texts, graph_of}
use Rattle.prob_expr.specs.Vocabulary.{PlainTarget}
use Rattle.targets.specs.Vocabulary.{Lists, AreListedSets}
use Rattle.targets.proofs.Effects.{listed_outcome}
use Rattle.diagram.specs.Vocabulary.{Names, lent, query_lists}
use Rattle.diagram.proofs.Lent.{lent_owned}
use Rattle.identify_command.specs.Requests.{request_of}
use Rattle.identify_command.specs.Right.{DecidesTarget}
use Rattle.identify_command.proofs.Lists.{three_sets}
use Rattle.identify_command.proofs.conditional.conditional_answer.Goals as goal

pub decide_given-requires-clause-sets : goal.decide_given-requires-clause-sets
decide_given-requires-clause-sets c = three_sets _ c.args.diagram.now.observed.graph.n
    (record { x = c.in_ok-sets.sets.x.bits; y = c.in_ok-sets.sets.y.bits; given = c.in_ok-sets.sets.given.bits }) c.args.diagram.now.observed.sized
    c.in_ok-sets.ensures.sets

pub decide_given-requires-clause-some : goal.decide_given-requires-clause-some
decide_given-requires-clause-some c = listed_outcome _ c.in_ok-sets.sets.x.bits c.in_ok-sets.sets.y.bits c.in_ok-sets.sets.given.bits c.in_ok-sets.ensures.sets

pub returns-clause-answer : goal.returns-clause-answer
returns-clause-answer c =
    let q = request_of c.args.asked.now in
    let given : Names = Some (texts c.args.given.now) in
    let lists_by : Names → Names → Lists = λ x y. query_lists c.args.diagram.now.read c.args.diagram.now.observed.names x y given in
    let same : lists_by (lent c.as_deref-x.result) (lent c.as_deref-y.result) ≡ lists_by q.x q.y =
    ap (λ (x : Names). lists_by x (lent c.as_deref-y.result)) (lent_owned _ _ c.as_deref-x.ensures.value)
    ∙ ap (λ (y : Names). lists_by q.x y) (lent_owned _ _ c.as_deref-y.ensures.value) in
    let s = c.in_ok-sets.sets in
    let t : PlainTarget = record { x = s.x.bits; y = s.y.bits; given = s.given.bits } in record {
      target = t;
      named = subst (λ (l : Lists). AreListedSets l s.x.bits s.y.bits s.given.bits) same c.in_ok-sets.ensures.sets;
      decided = subst (λ (b : Bool). DecidesTarget c.args.asked.now.form.short b (graph_of c.args.diagram.now.observed.graph) t c.in-Ok.answer)
          c.is_certified.ensures c.in-Ok.ensures;
    }
