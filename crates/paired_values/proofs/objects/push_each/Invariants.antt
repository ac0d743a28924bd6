use Rattle.std.proofs.Common.{◌≡◌, drop}
use Rattle.answer_json.specs.Vocabulary.{with_values}
use Rattle.paired_values.specs.Objects.{cells_json}
use Rattle.paired_values.proofs.objects.push_each.Given as goal

abbrev pub invariant-loop-valued : goal.invariant-loop-valued
invariant-loop-valued g l = with_values (cells_json g.Q.Quantity.numbers g.Q.Shown.IS_EXACT (g.A.ShownAtCells.levels l.answer l.names) (drop l.valued-index l.values)) l.object
    ≡ with_values (cells_json g.Q.Quantity.numbers g.Q.Shown.IS_EXACT (g.A.ShownAtCells.levels l.answer l.names) l.values) l.fn.object
