use Rattle.std.proofs.Common.{◌*◌, ◌≡◌, ◌≤◌, ◌&&◌, nat_lt, get_or}
use Rattle.mixed_graph.specs.Vocabulary.{has}
use Rattle.survey_command.specs.Counts.{pairs_from}
use Rattle.survey_command.proofs.random_graph.count.bidirected_count.Given as goal

abbrev pub invariant-loop-v : goal.invariant-loop-v
invariant-loop-v l = (l.total ≡ pairs_from 64 (λ a b. has (get_or l.g.spouses a 0) b && nat_lt a b) l.v) × (l.total ≤ 64 * l.v)
