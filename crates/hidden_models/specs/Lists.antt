-- Lists that are made element by element.
use Rattle.std.specs.Prelude.{ℕ, ◌≡◌, ◌<◌, List, length, get_or}

-- the list has n elements, and P holds of each with its place; past the end anything may be taken to stand
pub record AreListed {X : Type 0} (P : ℕ → X → Type 0) (xs : List X) (n : ℕ) : Type 0 where
  pub long : length xs ≡ n
  pub each : (i : ℕ) → i < n → (past : X) → P i (get_or xs i past)
