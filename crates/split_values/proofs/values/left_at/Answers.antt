use Rattle.std.proofs.Common.{◌≡◌, ◌∙◌, Result, Err, ap, ap₂, sym, rules}
use Rattle.std.proofs.lemmas.Bool.{false≢true}
use Rattle.mixed_graph.specs.Vocabulary.{union}
use Rattle.mixed_graph.proofs.MaskLaws.{has_none}
use Rattle.quantity.specs.Kinds.{Pair}
use Rattle.count_eval.specs.Programs.{seen, seen_more}
use Rattle.count_eval.specs.Stops.{Stop}
use Rattle.count_eval.specs.Vocabulary.{after, cell_of, formula_value, plain, weights_in}
use Rattle.split_values.specs.Outcomes.{placed_left}
use Rattle.split_values.specs.Values.{share_of}
use Rattle.split_values.proofs.values.left_at.Goals as goal

pub share_at-requires-clause-given : goal.share_at-requires-clause-given
share_at-requires-clause-given g c = λ v e. absurd (false≢true (sym (has_none v) ∙ e))

pub returns-in_err-shown : goal.returns-in_err-shown
returns-in_err-shown g c =
    let r = c.args.reading.now in let k = g.Q.Quantity.kind in let numbers = g.Q.Quantity.numbers in
    let w = weights_in r.n (g.L.Lookup.counts r.lookup.now) in let s = cell_of r.first.now in
    let e : c.from_residual-in_err-shown.result ≡ Err c.in_err-shown.field-0.0 = search rules in
    ap (seen_more numbers) e
    ∙ ap₂ (λ (p q : Result Pair Stop). after p (λ a. after q (λ b. placed_left s (g.Q.Difference.difference a b))))
    (ap (seen numbers) (sym c.in_ok-joint.was) ∙ c.joint_at.ensures)
    (ap (seen numbers) (sym c.in_err-shown.was) ∙ c.share_at.ensures
    ∙ ap (λ u. formula_value (plain k) w (share_of u 0) s) (c.union-all.ensures.mask ∙ ap (λ u. union u r.given.bits) c.union.ensures.mask))

pub returns : goal.returns
returns g c =
    let r = c.args.reading.now in let k = g.Q.Quantity.kind in let numbers = g.Q.Quantity.numbers in
    let w = weights_in r.n (g.L.Lookup.counts r.lookup.now) in let s = cell_of r.first.now in
    c.left_over.ensures ∙ ap (placed_left s) c.subtract.ensures
    ∙ ap₂ (λ (p q : Result Pair Stop). after p (λ a. after q (λ b. placed_left s (g.Q.Difference.difference a b))))
    (ap (seen numbers) (sym c.in_ok-joint.was) ∙ c.joint_at.ensures)
    (ap (seen numbers) (sym c.in_ok-shown.was) ∙ c.share_at.ensures
    ∙ ap (λ u. formula_value (plain k) w (share_of u 0) s) (c.union-all.ensures.mask ∙ ap (λ u. union u r.given.bits) c.union.ensures.mask))
