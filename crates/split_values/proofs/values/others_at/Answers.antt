use Rattle.std.proofs.Common.{◌∙◌, Result, None, ap, sym}
use Rattle.std.proofs.lemmas.Bool.{false≢true}
use Rattle.mixed_graph.proofs.MaskLaws.{has_none}
use Rattle.quantity.specs.declared.fault.QuantityFault.{QuantityFault}
use Rattle.quantity.specs.Kinds.{Pair}
use Rattle.count_eval.specs.Programs.{seen}
use Rattle.count_eval.specs.Stops.{Stop}
use Rattle.count_eval.specs.Vocabulary.{after, cell_of, formula_value, placed, plain, weights_in}
use Rattle.split_values.specs.Outcomes.{as_some}
use Rattle.split_values.specs.Values.{share_of}
use Rattle.split_values.proofs.values.others_at.Goals as goal

pub share_at-requires-clause-given : goal.share_at-requires-clause-given
share_at-requires-clause-given g c = λ v e. absurd (false≢true (sym (has_none v) ∙ e))

pub returns : goal.returns
returns g c =
    let r = c.args.reading.now in let k = g.Q.Quantity.kind in let numbers = g.Q.Quantity.numbers in
    let w = weights_in r.n (g.L.Lookup.counts r.lookup.now) in let t = cell_of r.second.now in
    c.share.ensures ∙ ap (λ (q : Result Pair QuantityFault). as_some (placed None 0 t q)) c.div.ensures
    ∙ ap (λ (p : Result Pair Stop). after p (λ b. as_some (placed None 0 t (k.div (numbers c.args.left) b))))
    (ap (seen numbers) (sym c.in_ok-others.was) ∙ c.share_at.ensures
    ∙ ap (λ u. formula_value (plain k) w (share_of u 0) t) c.union.ensures.mask)
