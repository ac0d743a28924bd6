use Rattle.std.proofs.Common.{All}
use Rattle.count_eval.specs.Levels.{HasLevel}
use Rattle.count_eval.proofs.evaluable.is_cell.Given as goal

abbrev pub invariant-members : goal.invariant-members
invariant-members l = All (HasLevel l.c l.at) l.v-iterator → All (HasLevel l.c l.at) l.c.vertices
