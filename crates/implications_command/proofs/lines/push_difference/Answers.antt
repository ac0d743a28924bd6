use Rattle.std.proofs.Common.{◌≡◌, ◌∙◌, ◌++◌, ap, codes, List, ℕ, rules, to_z, of_z}
use Rattle.std.specs.Int.{w128}
use Rattle.std.proofs.Math.Facts.{to_z-of_z}
use Rattle.count_eval.specs.Vocabulary.{cell_of}
use Rattle.count_answers.specs.Vocabulary.{assignments}
use Rattle.implications_command.specs.Lines.{value_text, vertices_of}
use Rattle.implications_command.proofs.Pieces.{three_pieces}
use Rattle.implications_command.proofs.lines.push_difference.Goals as goal

pub returns : goal.returns
returns c =
    let text : List ℕ → List ℕ = λ cell. assignments c.args.names.now c.args.counts.now (cell_of cell) (vertices_of c.args.i.now) in
    let kept : to_z w128 (of_z w128 c.args.d.value) ≡ c.args.d.value = search (rules, to_z-of_z) in
    three_pieces c.args.out.now.items (value_text c.args.d.value) (text c.args.d.cell) (codes "\n")
    c.push_value.new.out.items c.push_cell.new.out.items c.push.new.self.items
    (c.in_ok-push_value.ensures ∙ ap (λ z. c.args.out.now.items ++ value_text z) kept)
    (c.in_ok-push_cell.ensures ∙ ap (λ cell. c.push_value.new.out.items ++ text cell) c.entries.ensures.same) c.in_ok-push.ensures.items
