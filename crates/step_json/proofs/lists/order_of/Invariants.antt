use Rattle.std.proofs.Common.{◌≡◌, ◌≤◌, ℕ, get_or, take, length, List}
use Rattle.step_json.proofs.lists.order_of.Given as goal

-- the first entries are those of the list, and the others are 0
pub record Copied (list vertices : List ℕ) (i : ℕ) : Type 0 where
  pub size : length list ≡ 64
  pub done : take i list ≡ take i vertices
  pub blank : (k : ℕ) → i ≤ k → get_or list k 0 ≡ 0

abbrev pub invariant-loop-i : goal.invariant-loop-i
invariant-loop-i l = Copied l.list l.vertices l.i
