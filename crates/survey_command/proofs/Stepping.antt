-- States after steps.
use Rattle.std.proofs.Common.{ℕ, zero, suc, ◌+◌, ◌*◌, ◌/◌, ◌%◌, ◌^◌, ◌≡◌, refl, sym, ap, ◌∙◌, arith}
use Rattle.std.proofs.Math.Nat.{mod-add-mod}
use Rattle.survey_command.specs.Draws.{next_state, state_after, draw_of}

pub next_state_is : (s : ℕ) → ((s * 6364136223846793005) % 2 ^ 64 + 1442695040888963407) % 2 ^ 64 ≡ next_state s
unfolding next_state
next_state_is s = mod-add-mod (s * 6364136223846793005) (2 ^ 64) 1442695040888963407

pub after_none : (s : ℕ) → state_after s 0 ≡ s
unfolding state_after
after_none s = refl

pub after_more : (s k : ℕ) → state_after s (suc k) ≡ next_state (state_after s k)
unfolding state_after
after_more s k = refl

-- steps after steps
pub state_after-add : (s a b : ℕ) → state_after (state_after s a) b ≡ state_after s (a + b)
state_after-add s a zero = after_none (state_after s a) ∙ ap (λ n. state_after s n) (omega arith)
state_after-add s a (suc b) = after_more (state_after s a) b ∙ ap (λ x. next_state x) (state_after-add s a b) ∙ sym (after_more s (a + b))
    ∙ ap (λ n. state_after s n) (omega arith)

pub draw_is : (s : ℕ) → s / 2 ^ 33 % 16 ≡ draw_of s
unfolding draw_of
draw_is s = refl
