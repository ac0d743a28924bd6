use Rattle.std.proofs.Common.{◌≡◌, ◌∙◌, List, ℕ, ap, codes, rules, to_z, of_z}
use Rattle.std.specs.Fmt.{signed_decimal}
use Rattle.std.specs.Int.{w128}
use Rattle.std.proofs.Math.Facts.{to_z-of_z}
use Rattle.json.specs.Json.{Json, string}
use Rattle.count_eval.specs.Vocabulary.{cell_of}
use Rattle.answer_json.specs.Vocabulary.{with_key, with_value}
use Rattle.count_json.specs.Vocabulary.{cell_json}
use Rattle.implications_command.specs.Lines.{vertices_of}
use Rattle.implications_command.proofs.objects.push_difference.Goals as goal

pub returns : goal.returns
returns c =
    let at : List ℕ → Json = λ cell. cell_json c.args.names.now c.args.counts.now (cell_of cell) (vertices_of c.args.i.now) in
    let kept : to_z w128 (of_z w128 c.args.d.value) ≡ c.args.d.value = search (rules, to_z-of_z) in
    c.in_ok-push_cell.ensures ∙ ap (λ cell. with_value (at cell) c.key-2.new.self) c.entries.ensures.same
    ∙ ap (with_value (at c.args.d.cell)) (c.in_ok-key-2.ensures
    ∙ ap (with_key (codes "cell")) (c.in_ok-push_value.ensures ∙ ap (λ z. with_value (string (signed_decimal z)) c.key.new.self) kept
    ∙ ap (with_value (string (signed_decimal c.args.d.value))) c.in_ok-key.ensures))
