use Rattle.std.proofs.Common.{◌≡◌, ◌<◌, ◌≤◌, true, [], length, map, Some, sym, subst, ap, ◌∙◌, rules}
use Rattle.std.proofs.lemmas.Result.{err_from_is_err_and}
use Rattle.prob_expr.specs.declared.expr.Expr.{Named}
use Rattle.mixed_graph.specs.Vocabulary.{graph_of}
use Rattle.prob_expr.specs.Vocabulary.{cap, masks_of, are_terms}
use Rattle.prob_expr.specs.View.{view}
use Rattle.do_derivation.specs.Accepts.{DefinesNot, start_of}
use Rattle.do_derivation.specs.Answers.{StopsAtStep}
use Rattle.do_derivation.specs.View.{step_view, lemma_view}
use Rattle.do_derivation.specs.declared.faults.CheckFault.TheVariants.{EndDiffers}
use Rattle.do_derivation.proofs.Defining
use Rattle.do_derivation.proofs.checking.define.Goals as goal

pub run-requires : goal.run-requires
run-requires c =
    let whole = Defining.start_is_term c.args.g.now.n c.args.lemmas.now.items c.loop-k.k c.lemma-item.result c.requires.sets (search rules) (search rules) in
    record { terms = subst (λ e. are_terms c.args.g.now.n e ≡ true) (sym c.start_of-start.ensures) whole }

pub returns-in_err-run-clause-fault : goal.returns-in_err-run-clause-fault
returns-in_err-run-clause-fault c =
    let p = err_from_is_err_and c.from_residual.result c.from_residual.ensures.1 in
    rw (p.1, p.2)
    (Defining.unless_weaker c.in_err-run.field-0.0
    (StopsAtStep (graph_of c.args.g.now) (masks_of c.loop-k.sets.items) (step_view c.lemma-item.result.step) (view c.start_of-start.result)
    (view c.index.result.now) (Some c.cap-in-loop-k.result) c.cap-in-loop-k-2.result c.in_err-run.field-0.0)
    (DefinesNot (graph_of c.args.g.now) [] 0 (map lemma_view c.args.lemmas.now.items) (map view c.args.defs.now.items) c.in_err-run.field-0.0)
    (λ h. Defining.lemma_fails (graph_of c.args.g.now) c.args.lemmas.now.items c.args.defs.now.items c.loop-k.sets.items c.loop-k.k c.lemma-item.result
    (search rules) (search rules) c.loop-k.invariant
    c.index.result.now (search rules) c.index.ensures c.in_err-run.field-0.0
    (subst (λ n. StopsAtStep (graph_of c.args.g.now) (masks_of c.loop-k.sets.items) (step_view c.lemma-item.result.step)
    (start_of c.args.g.now.n c.lemma-item.result.set.bits) (view c.index.result.now) (Some (cap c.loop-k.k)) n c.in_err-run.field-0.0)
    c.cap-in-loop-k-2.ensures
    (subst (λ n. StopsAtStep (graph_of c.args.g.now) (masks_of c.loop-k.sets.items) (step_view c.lemma-item.result.step)
    (start_of c.args.g.now.n c.lemma-item.result.set.bits) (view c.index.result.now) (Some n) c.cap-in-loop-k-2.result c.in_err-run.field-0.0)
    c.cap-in-loop-k.ensures
    (subst (λ e. StopsAtStep (graph_of c.args.g.now) (masks_of c.loop-k.sets.items) (step_view c.lemma-item.result.step) e (view c.index.result.now)
    (Some c.cap-in-loop-k.result) c.cap-in-loop-k-2.result c.in_err-run.field-0.0) c.start_of-start.ensures h))))
    c.in_err-run.ensures.fault)

pub returns-then-len-clause-fault : goal.returns-then-len-clause-fault
returns-then-len-clause-fault c =
    let done : length c.args.lemmas.now.items ≤ c.loop-k.k = search rules in
    let at : c.len-then-len.result ≡ c.loop-k.k = search rules in
    let room : c.loop-k.k < length c.args.defs.now.items = search rules in
    subst (λ n. DefinesNot (graph_of c.args.g.now) [] 0 (map lemma_view c.args.lemmas.now.items) (map view c.args.defs.now.items) (EndDiffers n))
    (sym (c.cap-then-len.ensures ∙ ap cap at))
    (Defining.definition_extra (graph_of c.args.g.now) c.args.lemmas.now.items c.args.defs.now.items c.loop-k.sets.items c.loop-k.k done c.loop-k.invariant
    (Named 0) room)
