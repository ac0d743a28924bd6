use Rattle.std.proofs.Common.{◌≡◌, drop, map}
use Rattle.answer_json.specs.Vocabulary.{with_values}
use Rattle.count_eval.specs.Vocabulary.{cell_of}
use Rattle.paired_values.specs.Objects.{axis_json}
use Rattle.paired_values.proofs.objects.push_each_axis.Given as goal

abbrev pub invariant-loop-axis : goal.invariant-loop-axis
invariant-loop-axis l = with_values (map (axis_json l.all l.counts (cell_of l.cell)) (drop l.axis-index l.axes)) l.object
    ≡ with_values (map (axis_json l.all l.counts (cell_of l.cell)) l.axes) l.fn.object
