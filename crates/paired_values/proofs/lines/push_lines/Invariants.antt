use Rattle.std.proofs.Common.{◌≡◌, ◌++◌, drop}
use Rattle.paired_values.specs.Lines.{cells_text}
use Rattle.paired_values.proofs.lines.push_lines.Given as goal

abbrev pub invariant-loop-valued : goal.invariant-loop-valued
invariant-loop-valued g l = l.out.items ++ cells_text g.Q.Quantity.numbers g.Q.Quantity.kind g.Q.Shown.IS_EXACT (g.A.ShownAtCells.effect l.answer l.names) (drop l.valued-index l.values)
    ≡ l.fn.out.items ++ cells_text g.Q.Quantity.numbers g.Q.Quantity.kind g.Q.Shown.IS_EXACT (g.A.ShownAtCells.effect l.answer l.names) l.values
