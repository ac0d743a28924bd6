use Rattle.std.proofs.Common.{◌≡◌, ◌++◌, take}
use Rattle.std.specs.List.{flat_map}
use Rattle.count_eval.specs.Vocabulary.{cell_of}
use Rattle.paired_values.specs.Lines.{axis_text}
use Rattle.paired_values.proofs.lines.push_axes_text.Given as goal

abbrev pub invariant-loop-axis : goal.invariant-loop-axis
invariant-loop-axis l = l.out.items ≡ l.fn.out.items ++ flat_map (axis_text l.all l.counts (cell_of l.cell)) (take l.axis-index l.axes)
