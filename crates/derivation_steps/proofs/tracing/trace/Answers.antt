use Rattle.std.proofs.Common.{◌≡◌, ◌+◌, ◌∙◌, ℕ, List, [], ◌∷◌, ◌++◌, length, map, drop, sym, ap, subst, rules, arith}
use Rattle.std.proofs.Math.ListN.{drop_of_length-le}
use Rattle.std.proofs.lemmas.Iterator.Adapters.{YieldsList-from_vec}
use Rattle.std.proofs.lemmas.Iterator.Consumers.{YieldsList-turn, YieldsList-end}
use Rattle.std.proofs.lemmas.List.{length_push}
use Rattle.mixed_graph.specs.Vocabulary.{graph_of}
use Rattle.prob_expr.specs.Vocabulary.{masks_of}
use Rattle.prob_expr.specs.View.{view}
use Rattle.do_derivation.specs.Plans.{Plan}
use Rattle.do_derivation.specs.Vocabulary.{step_view}
use Rattle.derivation_steps.specs.declared.tracing.Made.{Made}
use Rattle.derivation_steps.proofs.Turns.{IsLeft, moves_more, left_more, none_left}
use Rattle.derivation_steps.proofs.tracing.trace.Goals as goal

pub loop-step-preserved : goal.loop-step-preserved
loop-step-preserved c =
    let g = graph_of c.args.g.now in
    let lemmas = masks_of c.args.lemmas.now in
    let items = c.args.moves.items in
    let all = map step_view items in
    let first = view c.args.start in
    let done = c.loop-step.made.items in
    let step = c.in-Some.step in
    let whole = view c.in_ok-whole.whole in
    let b = c.into_iter-step-iterator.ensures.into_iter_gives in
    let t = YieldsList-turn (YieldsList-from_vec items b.0 (b.1 ∙ c.args.moves.ok.0)) c.loop-step.yielded
    c.loop-step.step-iterator c.loop-step.yielded_by c.next.result c.next.new.self step c.in-Some.is
    c.next.ensures.steps in
    let n = length c.loop-step.yielded in
    let left = map step_view (drop (n + 1) items) in
    let pushed : c.push.new.self.items ≡ done ++ (c.in_ok-next.next ∷ []) = search rules in
    let made : IsLeft g lemmas done (step_view step ∷ left) (view c.loop-step.whole) all first =
    subst (λ (ps : List Plan). IsLeft g lemmas done ps (view c.loop-step.whole) all first) (moves_more items n step t.0 t.1) c.loop-step.invariant in
    subst (λ (k : ℕ). IsLeft g lemmas c.push.new.self.items (map step_view (drop k items)) whole all first) (sym (length_push c.loop-step.yielded step))
    (subst (λ (ms : List Made). IsLeft g lemmas ms left whole all first) (sym pushed)
    (left_more g lemmas c.args.g.now.valid done (step_view step) left (view c.loop-step.whole) all first c.in_ok-next.next whole made c.in_ok-next.ensures
    c.in_ok-whole.ensures))

pub returns-clause-leads : goal.returns-clause-leads
returns-clause-leads c =
    let g = graph_of c.args.g.now in
    let lemmas = masks_of c.args.lemmas.now in
    let items = c.args.moves.items in
    let all = map step_view items in
    let first = view c.args.start in
    let b = c.into_iter-step-iterator.ensures.into_iter_gives in
    let t = YieldsList-end (YieldsList-from_vec items b.0 (b.1 ∙ c.args.moves.ok.0)) c.loop-step.yielded
    c.loop-step.step-iterator c.loop-step.yielded_by c.next.result c.next.new.self c.in-None.is
    c.next.ensures.steps in
    let n = length c.loop-step.yielded in
    let none : map step_view (drop n items) ≡ [] = ap (map step_view) (drop_of_length-le items {i = n} (let e = t.1 in omega (arith, e))) in
    (none_left g lemmas c.loop-step.made.items (view c.loop-step.whole) all first
    (subst (λ (ps : List Plan). IsLeft g lemmas c.loop-step.made.items ps (view c.loop-step.whole) all first) none c.loop-step.invariant)).1
