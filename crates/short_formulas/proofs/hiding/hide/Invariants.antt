use Rattle.std.proofs.Common.{◌≡◌}
use Rattle.short_formulas.proofs.hiding.hide.Given as goal

abbrev pub invariant-loop-i : goal.invariant-loop-i
invariant-loop-i l = l.graph.n ≡ l.g.n
