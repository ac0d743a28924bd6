-- What an undirected graph and its sets have to be.
use Rattle.std.specs.Prelude.{ℕ, ◌≡◌, Bool, true, false}

-- the graph is undirected, and no separator has a vertex of x or y
pub record IsFrame (near : ℕ → ℕ → Bool) (allowed x y : ℕ → Bool) : Type 0 where
  pub turn : (u v : ℕ) → near u v ≡ true → near v u ≡ true
  pub x_fixed : (v : ℕ) → x v ≡ true → allowed v ≡ false
  pub y_fixed : (v : ℕ) → y v ≡ true → allowed v ≡ false
