-- One row of draws, inside this crate.
use Rattle.std.specs.Prelude.{ℕ, ◌-◌, Bool, ◌&&◌, ◌==◌, nat_lt}
use Rattle.survey_command.specs.Draws.{state_after, draw_of}

-- u is i, and v is after i and before `end` with a draw that passes the test, where the draws for i begin after state s
abbrev pub is_in_row : ℕ → (ℕ → Bool) → ℕ → ℕ → ℕ → ℕ → Bool
is_in_row s test i end u v = (u == i) && (nat_lt i v && (nat_lt v end && test (draw_of (state_after s (v - i)))))
