use Rattle.std.proofs.Common.{ℕ, ◌≡◌, ◌<◌, ◌-◌, ◌∙◌, ap, sym, set, length, arith}
use Rattle.mixed_graph.specs.Vocabulary.{has}
use Rattle.count_eval.specs.Vocabulary.{weights_in, cell_of}
use Rattle.natural_bounds.specs.Vocabulary.{tightest_below, tightest_over}
use Rattle.crossed_bounds.specs.Vocabulary.{levels_bound}
use Rattle.bound_values.specs.Questions.{asked_of}
use Rattle.bound_values.specs.Values.{fraction_of}
use Rattle.bound_values.proofs.Boxes.{tightest_done}
use Rattle.bound_values.proofs.pairs.+crossed_below.Goals as goal

pub returns : goal.returns
returns t c =
    let m = c.args.scope.now.n in let n = weights_in m c.args.scope.now.counts.now in let q = c.args.scope.now.question in let u = c.args.v - 1 in
    let z = has q.instruments.bits in
    let f = λ (r : ℕ → ℕ). tightest_over c.args.end z n.size m (levels_bound c.args.end n (asked_of q) r) (cell_of c.args.cell.now) in
    let some = c.if-v-eq0.false in
    let low : u < length c.args.first = (let v = c.requires.vertex in omega (arith, v, some)) in
    let end : c.loop-x.x ≡ n.size u = omega (arith, c.levels-x-end.ensures, c.loop-x-test.false, c.loop-x.auto.x-end) in
    tightest_done c.args.end z n.size f c.args.first c.args.v u (omega (arith, some)) (sym c.has.ensures ∙ c.if-not-has.false) low (fraction_of c.loop-x.best)
    (c.loop-x.invariant ∙ ap (λ k. tightest_below c.args.end k (λ x. tightest_over c.args.end z n.size u f (cell_of (set c.args.first u x)))) end)
