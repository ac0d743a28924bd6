-- A linear congruential generator with Knuth's multiplier and increment (The Art of Computer Programming, volume 2, section 3.3.4; MMIX).
use Rattle.std.specs.Prelude.{ℕ, zero, suc, ◌+◌, ◌*◌, ◌/◌, ◌%◌, ◌^◌}

-- the state after a state
unfoldable pub next_state : ℕ → ℕ
next_state s = (s * 6364136223846793005 + 1442695040888963407) % 2 ^ 64

-- the state after k steps
unfoldable pub state_after : ℕ → ℕ → ℕ
state_after s zero = s
state_after s (suc k) = next_state (state_after s k)

-- what a state gives: four of its upper bits, a number from 0 to 15
unfoldable pub draw_of : ℕ → ℕ
draw_of s = s / 2 ^ 33 % 16
