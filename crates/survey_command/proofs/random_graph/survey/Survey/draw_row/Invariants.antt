use Rattle.std.proofs.Common.{ℕ, ◌+◌, ◌-◌, ◌≡◌, ◌||◌, ◌==◌, nat_lt, get_or}
use Rattle.mixed_graph.specs.Vocabulary.{has}
use Rattle.survey_command.specs.Draws.{state_after}
use Rattle.survey_command.specs.Rows.{is_in_row}
use Rattle.survey_command.proofs.random_graph.survey.Survey.draw_row.Given as goal

abbrev pub invariant-loop-j : goal.invariant-loop-j
invariant-loop-j l = (l.survey.state ≡ state_after l.fn.self.state (l.j - (l.i + 1)))
    × ((u v : ℕ) → has (get_or l.survey.directed.heads u 0) v ≡ (has (get_or l.fn.self.directed.heads u 0) v
    || is_in_row l.fn.self.state (λ r. nat_lt r 3) l.i l.j u v))
    × ((u v : ℕ) → has (get_or l.survey.both.heads u 0) v
    ≡ (has (get_or l.fn.self.both.heads u 0) v || (is_in_row l.fn.self.state (λ r. r == 3) l.i l.j u v || is_in_row l.fn.self.state (λ r. r == 3) l.i l.j v u)))
