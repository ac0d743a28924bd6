use Rattle.std.proofs.Common.{◌≡◌, ◌+◌, ◌∙◌, List, All, Err, None, rules, ap, sym, subst, map, drop}
use Rattle.count_eval.specs.Programs.{seen, seen_so_far, seen_more, stop_of}
use Rattle.count_eval.specs.Steps.{joined}
use Rattle.count_eval.specs.Vocabulary.{IsEvaluable, after, cell_of, weights_in, whole}
use Rattle.factor_values.specs.declared.factors.Factor.{Factor}
use Rattle.factor_values.specs.Code.{factor_view}
use Rattle.factor_values.specs.Factors.{PlainFactor}
use Rattle.factor_values.specs.Outcomes.{product_from, product_outcome}
use Rattle.factor_values.proofs.Walking.{at_factor, factors_left, factor_more, factor_stops}
use Rattle.factor_values.proofs.evaluating.product_at.Goals as goal

pub factor_at-requires-clause-factor : goal.factor_at-requires-clause-factor
factor_at-requires-clause-factor g c =
    let r = c.args.reading.now in
    at_factor (λ f. IsEvaluable r.n (g.L.Lookup.counts r.lookup.now) f.formula) c.deref-factor-items.result.now c.loop-factor.factor-index
    c.factor-item.result c.loop-factor-test.true c.factor-item.is
    (subst (λ (fs : List Factor). All (λ f. IsEvaluable r.n (g.L.Lookup.counts r.lookup.now) f.formula) (map factor_view fs))
    (sym c.deref-factor-items.ensures.value) c.requires.factors.factors)

pub returns-in_err-so_far : goal.returns-in_err-so_far
returns-in_err-so_far g c =
    let r = c.args.reading.now in let k = g.Q.Quantity.kind in let numbers = g.Q.Quantity.numbers in
    let w = weights_in r.n (g.L.Lookup.counts r.lookup.now) in let s = cell_of c.args.cell.now in let t = cell_of r.second.now in
    let items = c.deref-factor-items.result.now in let i = c.loop-factor.factor-index in let so_far = seen_so_far numbers c.loop-factor.so_far in
    let stop = stop_of c.in_err-so_far.field-0.0 in
    let e : c.from_residual-in_err-so_far.result ≡ Err c.in_err-so_far.field-0.0 = search rules in
    ap (seen numbers) e
    ∙ ap (λ o. after o (whole (k.from_ratio 1 1)))
    (factor_stops k w s t (factor_view c.factor-item.result) (map factor_view (drop (i + 1) items)) so_far stop
    (ap (λ o. after o (joined k.mul None 2 s so_far)) (sym (ap (seen numbers) (sym c.in_ok-q.was) ∙ c.factor_at.ensures)) ∙ sym c.multiply_more.ensures
    ∙ ap (seen_more numbers) c.in_err-so_far.was)
    ∙ ap (λ (fs : List PlainFactor). product_from k w fs s t so_far) (sym (factors_left items i c.factor-item.result c.loop-factor-test.true c.factor-item.is))
    ∙ c.loop-factor.invariant)
    ∙ ap (λ (fs : List Factor). product_outcome k w (map factor_view fs) s t) c.deref-factor-items.ensures.value

pub loop-factor-preserved : goal.loop-factor-preserved
loop-factor-preserved g c =
    let r = c.args.reading.now in let k = g.Q.Quantity.kind in let numbers = g.Q.Quantity.numbers in
    let w = weights_in r.n (g.L.Lookup.counts r.lookup.now) in let s = cell_of c.args.cell.now in let t = cell_of r.second.now in
    let items = c.deref-factor-items.result.now in let i = c.loop-factor.factor-index in let so_far = seen_so_far numbers c.loop-factor.so_far in
    factor_more k w s t (factor_view c.factor-item.result) (map factor_view (drop (i + 1) items)) so_far (seen_so_far numbers c.in_ok-so_far.so_far)
    (ap (λ o. after o (joined k.mul None 2 s so_far)) (sym (ap (seen numbers) (sym c.in_ok-q.was) ∙ c.factor_at.ensures)) ∙ sym c.multiply_more.ensures
    ∙ ap (seen_more numbers) c.in_ok-so_far.was)
    ∙ ap (λ (fs : List PlainFactor). product_from k w fs s t so_far) (sym (factors_left items i c.factor-item.result c.loop-factor-test.true c.factor-item.is))
    ∙ c.loop-factor.invariant
