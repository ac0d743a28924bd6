-- How many vertices a cause serves.
use Rattle.std.specs.Prelude.{ℕ, ◌≡◌, ◌<◌, ◌==◌, ◌||◌}
use Rattle.finite_models.specs.Models.{FiniteModel}

-- each cause serves one vertex, or two
pub record ServesTwo (m : FiniteModel) : Type 0 where
  pub one : ℕ → ℕ
  pub other : ℕ → ℕ
  pub serves : (j v : ℕ) → j < m.causes → m.serves j v ≡ (v == one j || v == other j)
