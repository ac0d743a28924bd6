use Rattle.std.proofs.Common.{◌≡◌, ◌∙◌, Err, ap, sym, rules}
use Rattle.count_eval.specs.Programs.{seen, seen_more}
use Rattle.count_eval.specs.Vocabulary.{cell_of, formula_value, plain, weights_in}
use Rattle.split_values.specs.Outcomes.{as_some}
use Rattle.split_values.specs.Values.{share_of}
use Rattle.split_values.proofs.values.same_at.Goals as goal

pub returns-in_err-q : goal.returns-in_err-q
returns-in_err-q g c =
    let r = c.args.reading.now in let numbers = g.Q.Quantity.numbers in let w = weights_in r.n (g.L.Lookup.counts r.lookup.now) in
    let e : c.from_residual.result ≡ Err c.in_err-q.field-0.0 = search rules in
    ap (seen_more numbers) e
    ∙ ap as_some (ap (seen numbers) (sym c.in_err-q.was) ∙ c.share_at.ensures
    ∙ ap (λ u. formula_value (plain g.Q.Quantity.kind) w (share_of r.y.bits u) (cell_of r.first.now)) c.union-given.ensures.mask)

pub returns : goal.returns
returns g c =
    let r = c.args.reading.now in let numbers = g.Q.Quantity.numbers in let w = weights_in r.n (g.L.Lookup.counts r.lookup.now) in
    ap as_some (ap (seen numbers) (sym c.in_ok-q.was) ∙ c.share_at.ensures
    ∙ ap (λ u. formula_value (plain g.Q.Quantity.kind) w (share_of r.y.bits u) (cell_of r.first.now)) c.union-given.ensures.mask)
