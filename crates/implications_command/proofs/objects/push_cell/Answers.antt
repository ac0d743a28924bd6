use Rattle.std.proofs.Common.{◌∙◌, map, ap}
use Rattle.count_eval.specs.Vocabulary.{cell_of}
use Rattle.answer_json.specs.Vocabulary.{with_values, ended_array}
use Rattle.answer_json.proofs.Arrays.{array_written}
use Rattle.count_json.specs.Vocabulary.{level_json}
use Rattle.implications_command.specs.Lines.{vertices_of}
use Rattle.implications_command.proofs.objects.push_cell.Goals as goal

pub returns : goal.returns
returns c =
    let levels = map (λ v. level_json c.args.names.now c.args.counts.now v (cell_of c.args.cell.now v)) (vertices_of c.args.i.now) in
    c.in_ok-end_array.ensures ∙ ap ended_array (c.in_ok-push_all_levels.ensures ∙ ap (with_values levels) c.in_ok-begin_array.ensures)
    ∙ array_written levels c.args.object.now
