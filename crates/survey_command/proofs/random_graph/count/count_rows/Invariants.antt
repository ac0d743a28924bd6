use Rattle.std.proofs.Common.{◌*◌, ◌≡◌, ◌≤◌, get_or}
use Rattle.mixed_graph.specs.Vocabulary.{has}
use Rattle.survey_command.specs.Counts.{pairs_from}
use Rattle.survey_command.proofs.random_graph.count.count_rows.Given as goal

abbrev pub invariant-loop-v : goal.invariant-loop-v
invariant-loop-v l = (l.total ≡ pairs_from 64 (λ a b. has (get_or l.rows a 0) b) l.v) × (l.total ≤ 64 * l.v)
