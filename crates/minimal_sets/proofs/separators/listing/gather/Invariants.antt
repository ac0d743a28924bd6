use Rattle.std.proofs.Common.{◌≡◌, ◌+◌, ◌*◌, ◌≤◌, length}
use Rattle.mixed_graph.specs.Vocabulary.{has}
use Rattle.minimal_sets.specs.Progress.{IsSoFar}
use Rattle.minimal_sets.specs.Rows.{is_near}
use Rattle.minimal_sets.proofs.separators.listing.gather.Given as goal

abbrev pub invariant-turns : goal.invariant-turns
invariant-turns g l = IsSoFar (is_near l.p.near) (has l.p.allowed.bits) (has l.p.x.bits) (has l.p.y.bits) l.sets.items l.todo.items
    × (length l.sets.items ≡ l.i)
    × (l.steps ≤ l.fn.steps + 1 + l.p.n * length l.sets.items)
