use Rattle.std.proofs.Common.{ℕ, ◌<◌, get_or}
use Rattle.model_cases.proofs.models.are_values.Given as goal

abbrev pub invariant-loop-v : goal.invariant-loop-v
invariant-loop-v l = (k : ℕ) → k < l.v → get_or l.at k 0 < get_or l.sizes k 0
