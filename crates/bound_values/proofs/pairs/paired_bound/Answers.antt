use Rattle.std.proofs.Common.{◌∙◌, ap, ap₂}
use Rattle.mixed_graph.specs.Vocabulary.{has}
use Rattle.count_eval.specs.Vocabulary.{weights_in, cell_of}
use Rattle.natural_bounds.specs.Vocabulary.{tighter, tightest_over}
use Rattle.crossed_bounds.specs.Vocabulary.{levels_bound}
use Rattle.bound_values.specs.Questions.{asked_of}
use Rattle.bound_values.proofs.pairs.paired_bound.Goals as goal

pub returns : goal.returns
returns c =
    let n = c.args.scope.now.n in let w = weights_in n c.args.scope.now.counts.now in let q = c.args.scope.now.question in
    let z = has q.instruments.bits in let s = cell_of c.args.cell in
    c.tighter.ensures ∙ ap₂ (tighter c.args.end)
    (c.crossed_below-crossed.ensures ∙ ap (λ v. tightest_over c.args.end z w.size v
    (λ r. tightest_over c.args.end z w.size n (levels_bound c.args.end w (asked_of q) r) s) s) c.vertex_count.ensures)
    c.stratum_bound.ensures
