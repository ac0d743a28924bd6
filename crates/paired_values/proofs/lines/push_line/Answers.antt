use Rattle.std.proofs.Common.{◌∙◌, ◌++◌, ℕ, List, ap, append_assoc, codes}
use Rattle.count_eval.specs.Vocabulary.{cell_of}
use Rattle.evaluate_command.specs.Vocabulary.{sign_of}
use Rattle.paired_values.proofs.lines.push_line.Goals as goal

pub returns : goal.returns
returns g c = λ same.
    let effect : List ℕ → List ℕ = λ cell. g.A.ShownAtCells.effect c.args.answer.now c.args.names.now (cell_of cell) in
    let rest : List ℕ = sign_of g.Q.Shown.IS_EXACT ++ (g.Q.Quantity.kind.text (g.Q.Quantity.numbers c.args.valued.now.quantity) ++ codes "\n") in
    c.in_ok-push_quantity.ensures
    ∙ ap (λ (t : List ℕ). t ++ rest) (c.in_ok-push_effect.ensures same
    ∙ ap (λ (cell : List ℕ). c.args.out.now.items ++ effect cell) c.as_slice.ensures.value)
    ∙ append_assoc c.args.out.now.items (effect c.args.valued.now.cell.items) rest
