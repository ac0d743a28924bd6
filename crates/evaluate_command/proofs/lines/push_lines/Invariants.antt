use Rattle.std.proofs.Common.{◌≡◌, ◌++◌, take}
use Rattle.prob_expr.specs.Vocabulary.{target_view}
use Rattle.evaluate_command.specs.Lines.{cells_text}
use Rattle.evaluate_command.proofs.lines.push_lines.Given as goal

abbrev pub invariant-loop-valued : goal.invariant-loop-valued
invariant-loop-valued g l = l.out.items ≡ l.fn.out.items
    ++ cells_text g.Q.Quantity.numbers g.Q.Quantity.kind g.Q.Shown.IS_EXACT l.names (target_view l.target) l.counts (take l.valued-index l.values)
