use Rattle.std.proofs.Common.{◌≢◌, ℕ, ◌<◌, get_or}
use Rattle.markov_equivalence.proofs.comparison.parents_of_later.Given as goal

abbrev pub invariant-loop-i : goal.invariant-loop-i
invariant-loop-i l = (j : ℕ) → j < l.i → (get_or l.order.list j 0 ≢ l.a) × (get_or l.order.list j 0 ≢ l.b)
