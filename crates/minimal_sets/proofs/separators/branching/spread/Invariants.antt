use Rattle.std.proofs.Common.{◌+◌, ◌≤◌}
use Rattle.mixed_graph.specs.Vocabulary.{has}
use Rattle.minimal_sets.specs.Rows.{is_near}
use Rattle.minimal_sets.proofs.Spreads.{Spreading}
use Rattle.minimal_sets.proofs.separators.branching.spread.Given as goal

abbrev pub invariant-members : goal.invariant-members
invariant-members g l = Spreading (is_near l.p.near) (has l.p.allowed.bits) (has l.p.x.bits) (has l.p.y.bits) l.node l.fn.todo.items l.todo.items l.kept l.v
    × (l.steps ≤ l.fn.steps + l.v)
