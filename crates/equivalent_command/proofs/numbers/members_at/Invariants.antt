use Rattle.std.proofs.Common.{◌≡◌, ℕ, ◌&&◌, nat_lt, get_or}
use Rattle.mixed_graph.specs.Vocabulary.{has}
use Rattle.equivalent_command.proofs.numbers.members_at.Given as goal

abbrev pub invariant-loop-k : goal.invariant-loop-k
invariant-loop-k l = (j : ℕ) → has l.found.bits j ≡ (nat_lt j l.k && has l.s.bits (get_or l.places j 0))
