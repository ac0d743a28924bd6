use Rattle.std.proofs.Common.{◌≡◌, drop}
use Rattle.count_table.specs.Tables.{levels_in}
use Rattle.count_table.proofs.counts.levels_at.Given as goal

abbrev pub invariant-loop-i : goal.invariant-loop-i
invariant-loop-i l = levels_in (drop l.i l.vertices) (drop l.i l.levels) l.v ≡ levels_in l.vertices l.levels l.v
