use Rattle.std.proofs.Common.{◌∙◌, ap, sym, subst, map, List, arith}
use Rattle.prob_expr.specs.View.{view}
use Rattle.prob_expr.specs.declared.expr.Expr.{Expr}
use Rattle.prob_expr.specs.Vocabulary.{formula_view}
use Rattle.count_eval.specs.Vocabulary.{IsEvaluable, cell_of, formula_value, is_used, plain, weights_in}
use Rattle.factor_values.proofs.Walking.{read_below, read_levels}
use Rattle.factor_values.proofs.evaluating.factor_at.Goals as goal

pub formula_at-requires-clause-formula : goal.formula_at-requires-clause-formula
formula_at-requires-clause-formula g c =
    let r = c.args.reading.now in let f = c.args.factor.now.formula in
    subst (λ (ds : List Expr). IsEvaluable r.n (g.L.Lookup.counts r.lookup.now) (record { defs = map view ds; main = view f.main }))
    (sym c.deref.ensures.value) c.requires.factor

pub formula_at-requires-clause-levels : goal.formula_at-requires-clause-levels
formula_at-requires-clause-levels g c =
    let r = c.args.reading.now in let t = g.L.Lookup.counts r.lookup.now in
    read_levels t (is_used t) c.args.factor.now.second.bits c.args.cell.now r.second.now c.read_at-read.result (omega arith) c.read_at-read.ensures
    c.requires.first c.requires.second

pub returns : goal.returns
returns g c =
    let r = c.args.reading.now in let t = g.L.Lookup.counts r.lookup.now in let f = c.args.factor.now.formula in
    let k = plain g.Q.Quantity.kind in let w = weights_in r.n t in
    c.formula_at.ensures
    ∙ ap (λ (ds : List Expr). formula_value k w (record { defs = map view ds; main = view f.main }) (cell_of c.read_at-read.result)) c.deref.ensures.value
    ∙ ap (formula_value k w (formula_view f)) (read_below c.args.factor.now.second.bits c.args.cell.now r.second.now c.read_at-read.result c.read_at-read.ensures)
