use Rattle.std.proofs.Common.{◌≡◌, ◌<◌, ◌∙◌, ap, sym, arith}
use Rattle.mixed_graph.specs.Vocabulary.{has}
use Rattle.count_eval.specs.Steps.{each_level}
use Rattle.count_eval.specs.Vocabulary.{cell_of, weights_in}
use Rattle.count_eval.specs.Programs.{stop_of, seen_so_far, seen_more}
use Rattle.count_eval.proofs.CellSteps.{one_level}
use Rattle.factor_values.specs.Cells.{cell_added}
use Rattle.factor_values.specs.Code.{factors_view}
use Rattle.factor_values.proofs.Walking.{level_walk, skipped, loop_err, loop_done}
use Rattle.factor_values.proofs.evaluating.+sum.Goals as goal

pub returns-then-not-has : goal.returns-then-not-has
returns-then-not-has g t c =
    let r = c.args.reading.now in let w = weights_in r.n (g.L.Lookup.counts r.lookup.now) in let e = factors_view r.factors.now in
    c.cells_from.ensures
    ∙ skipped (has e.summed) w.size (cell_added g.Q.Quantity.kind w e (cell_of r.first.now) (cell_of r.second.now)) w.vertices c.args.v
    (omega (arith, c.from.ensures, c.if-from-reading.false)) c.args.cell (seen_so_far g.Q.Quantity.numbers c.args.so_far)
    (sym c.has.ensures ∙ c.if-not-has.true)

pub returns-in-Err : goal.returns-in-Err
returns-in-Err g t c =
    let r = c.args.reading.now in let w = weights_in r.n (g.L.Lookup.counts r.lookup.now) in let e = factors_view r.factors.now in
    let numbers = g.Q.Quantity.numbers in
    let low : c.args.v < r.n = omega (arith, c.from.ensures, c.if-from-reading.false) in
    loop_err (has e.summed) w.size (cell_added g.Q.Quantity.kind w e (cell_of r.first.now) (cell_of r.second.now)) w.vertices c.args.v low
    c.args.cell (seen_so_far numbers c.args.so_far) (omega (arith, low, c.requires.factors.few)) (sym c.has.ensures ∙ c.if-not-has.false)
    (seen_so_far numbers c.loop-x.total) c.loop-x.x (seen_more numbers c.cells_from-in-loop-x.result) (stop_of c.in-Err.failure)
    (omega (arith, c.levels-x-end.ensures, c.loop-x-test.true)) c.loop-x.invariant c.cells_from-in-loop-x.ensures (ap (seen_more numbers) (sym c.in-Err.is))

pub loop-x-preserved : goal.loop-x-preserved
loop-x-preserved g t c =
    let r = c.args.reading.now in let w = weights_in r.n (g.L.Lookup.counts r.lookup.now) in let e = factors_view r.factors.now in
    let numbers = g.Q.Quantity.numbers in
    one_level (level_walk (has e.summed) w.size (cell_added g.Q.Quantity.kind w e (cell_of r.first.now) (cell_of r.second.now)) w.vertices c.args.v
    (omega (arith, c.from.ensures, c.if-from-reading.false)) c.args.cell)
    (seen_so_far numbers c.args.so_far) (seen_so_far numbers c.loop-x.total) c.loop-x.x (seen_more numbers c.cells_from-in-loop-x.result)
    c.loop-x.invariant c.cells_from-in-loop-x.ensures
    ∙ ap (seen_more numbers) c.in-Ok.is

pub returns : goal.returns
returns g t c =
    let r = c.args.reading.now in let w = weights_in r.n (g.L.Lookup.counts r.lookup.now) in let e = factors_view r.factors.now in
    let numbers = g.Q.Quantity.numbers in
    let f = cell_added g.Q.Quantity.kind w e (cell_of r.first.now) (cell_of r.second.now) in
    let low : c.args.v < r.n = omega (arith, c.from.ensures, c.if-from-reading.false) in
    let o = seen_so_far numbers c.args.so_far in
    let end : w.size c.args.v ≡ c.loop-x.x = omega (arith, c.levels-x-end.ensures, c.loop-x-test.false, c.loop-x.auto.x-end) in
    loop_done (has e.summed) w.size f w.vertices c.args.v low c.args.cell o (omega (arith, low, c.requires.factors.few))
    (sym c.has.ensures ∙ c.if-not-has.false) (seen_so_far numbers c.loop-x.total)
    (ap (λ n. each_level n (level_walk (has e.summed) w.size f w.vertices c.args.v low c.args.cell) o) end ∙ c.loop-x.invariant)
