use Rattle.std.proofs.Common.{◌∙◌, ap, sym}
use Rattle.count_eval.specs.Programs.{seen_so_far, seen_more}
use Rattle.count_eval.specs.Vocabulary.{after, cell_of, weights_in, whole}
use Rattle.factor_values.specs.Code.{factors_view}
use Rattle.factor_values.proofs.Walking.{whole_walk}
use Rattle.factor_values.proofs.evaluating.sum_at.Goals as goal

pub returns : goal.returns
returns g c =
    let r = c.args.reading.now in let k = g.Q.Quantity.kind in let numbers = g.Q.Quantity.numbers in
    c.whole.ensures ∙ ap (λ p. whole p (seen_so_far numbers c.in_ok-total.total)) c.from_ratio.ensures
    ∙ ap (λ o. after o (whole (k.from_ratio 0 1))) (ap (seen_more numbers) (sym c.in_ok-total.was) ∙ c.cells_from.ensures)
    ∙ whole_walk k (weights_in r.n (g.L.Lookup.counts r.lookup.now)) (factors_view r.factors.now) (cell_of r.second.now) r.first.now
