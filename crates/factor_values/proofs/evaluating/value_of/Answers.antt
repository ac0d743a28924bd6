use Rattle.std.proofs.Common.{◌∙◌, ap, ap₂, sym, None}
use Rattle.count_eval.specs.Programs.{seen}
use Rattle.count_eval.specs.Vocabulary.{after, cell_of, placed}
use Rattle.factor_values.proofs.evaluating.value_of.Goals as goal

pub returns : goal.returns
returns g c =
    let k = g.Q.Quantity.kind in let numbers = g.Q.Quantity.numbers in let s = cell_of c.args.reading.now.first.now in
    c.outcome.ensures ∙ ap (placed None 0 s) c.div.ensures
    ∙ ap₂ (λ x y. after x (λ a. after y (λ b. placed None 0 s (k.div a b))))
    (ap (seen numbers) (sym c.in_ok-a.was) ∙ c.sum_at.ensures) (ap (seen numbers) (sym c.in_ok-b.was) ∙ c.chance_at.ensures)
