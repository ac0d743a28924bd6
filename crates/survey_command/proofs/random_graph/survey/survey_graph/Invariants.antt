use Rattle.std.proofs.Common.{ℕ, ◌≡◌, ◌&&◌, ◌||◌, ◌==◌, nat_lt, get_or}
use Rattle.mixed_graph.specs.Vocabulary.{has}
use Rattle.survey_command.specs.Draws.{state_after}
use Rattle.survey_command.specs.Drawn.{pairs_before, is_drawn}
use Rattle.survey_command.proofs.random_graph.survey.survey_graph.Given as goal

abbrev pub invariant-loop-i : goal.invariant-loop-i
invariant-loop-i l = (l.survey.state ≡ state_after l.seed (pairs_before l.i))
    × ((u v : ℕ) → has (get_or l.survey.directed.heads u 0) v ≡ (nat_lt u l.i && is_drawn l.seed (λ r. nat_lt r 3) u v))
    × ((u v : ℕ) → has (get_or l.survey.both.heads u 0) v
    ≡ ((nat_lt u l.i && is_drawn l.seed (λ r. r == 3) u v) || (nat_lt v l.i && is_drawn l.seed (λ r. r == 3) v u)))
