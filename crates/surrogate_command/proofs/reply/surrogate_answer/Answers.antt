use Rattle.std.proofs.Common.{◌≡◌, Bool, map, subst, sym, ap, ◌∙◌, arith}
use Rattle.std.proofs.lemmas.List.{length-map}
use Rattle.mixed_graph.specs.Vocabulary.{has, Within, graph_of}
use Rattle.prob_expr.specs.Vocabulary.{masks_of}
use Rattle.targets.proofs.Effects.{effect_within_x, effect_within_y, effect_apart, effect_outcome}
use Rattle.command_words.specs.Vocabulary.{names_in}
use Rattle.diagram.specs.Vocabulary.{Names, lent}
use Rattle.diagram.proofs.Lent.{lent_owned}
use Rattle.experiment_lists.specs.Vocabulary.{Lists}
use Rattle.experiment_lists.proofs.Filled.{one_set_each, sets_filled}
use Rattle.surrogate_command.specs.Requests.{request_of}
use Rattle.surrogate_command.specs.Right.{Decides}
use Rattle.surrogate_command.specs.Sets.{SurrogateLists, surrogate_lists, AreSurrogateSets}
use Rattle.surrogate_command.proofs.Walked.{after_effect}
use Rattle.surrogate_command.proofs.reply.surrogate_answer.Goals as goal
use Rattle.surrogate_command.proofs.reply.surrogate_answer.Goals.{After-asked_sets}

-- the lists that are lent
abbrev lent_lists : After-asked_sets → SurrogateLists
lent_lists c = surrogate_lists c.args.diagram.now.read c.args.diagram.now.observed.names (lent c.as_deref-x.result) (lent c.as_deref-y.result)
    (map names_in c.deref.result.now)

-- those of the request
abbrev lists : After-asked_sets → SurrogateLists
lists c = let q = request_of c.args.asked.now in surrogate_lists c.args.diagram.now.read c.args.diagram.now.observed.names q.x q.y q.experiments

-- are the same
abbrev same : (c : After-asked_sets) → lent_lists c ≡ lists c
same c =
    let lists_by : Names → Names → Lists → SurrogateLists = surrogate_lists c.args.diagram.now.read c.args.diagram.now.observed.names in
    let q = request_of c.args.asked.now in
    ap (λ (x : Names). lists_by x (lent c.as_deref-y.result) (map names_in c.deref.result.now)) (lent_owned _ _ c.as_deref-x.ensures.value)
    ∙ ap (λ (y : Names). lists_by q.x y (map names_in c.deref.result.now)) (lent_owned _ _ c.as_deref-y.ensures.value)
    ∙ ap (λ (es : Lists). lists_by q.x q.y es) (ap (map names_in) c.deref.ensures.value)

pub decide-requires : goal.decide-requires
decide-requires c =
    let at = (goal.at.decide-requires c).After-asked_sets in
    let l = lists at in
    let x = c.in_ok-sets.sets.x.bits in
    let y = c.in_ok-sets.sets.y.bits in
    let zs = masks_of c.in_ok-sets.sets.experiments.items in
    let filled = c.args.asked.now.filled in
    let sets : AreSurrogateSets l x y zs = subst (λ k. AreSurrogateSets k x y zs) (same at) c.in_ok-sets.ensures.sets in
    let seen = c.args.diagram.now.observed in
    let count = one_set_each l.effect.observed l.experiments zs sets.experiments in
    let few = filled.few in
    record {
      x = subst (λ n. Within n (has x)) seen.sized (effect_within_x l.effect x y sets.effect);
      y = subst (λ n. Within n (has y)) seen.sized (effect_within_y l.effect x y sets.effect);
      apart = effect_apart l.effect x y sets.effect;
      some = effect_outcome l.effect x y sets.effect;
      few = (let items = simp length-map at count in let most = simp length-map at few in omega (arith, items, most));
      experiments = sets_filled l.effect.all l.effect.observed seen.graph.n seen.sized l.experiments filled.filled
          (sym (after_effect l sets.effect.no_fault) ∙ sets.no_fault) zs sets.experiments;
    }

pub returns-clause-answer : goal.returns-clause-answer
returns-clause-answer c =
    let at = (goal.at.returns-clause-answer c).After-asked_sets in
    let s = c.in_ok-sets.sets in record {
      sets = s;
      named = subst (λ (l : SurrogateLists). AreSurrogateSets l s.x.bits s.y.bits (masks_of s.experiments.items)) (same at) c.in_ok-sets.ensures.sets;
      decided = subst (λ (b : Bool). Decides b (graph_of c.args.diagram.now.observed.graph) s c.in-Ok.answer) c.wants_common.ensures c.in-Ok.ensures;
    }
