use Rattle.std.proofs.Common.{ℕ, ◌≡◌, ◌<◌, ◌≤◌, length, get_or}
use Rattle.count_eval.proofs.values.array_of.Given as goal

abbrev pub invariant-loop-v : goal.invariant-loop-v
invariant-loop-v l = record {
  long : length l.cell ≡ 64;
  copied : (u : ℕ) → u < l.v → get_or l.cell u 0 ≡ get_or l.at u 0;
  rest : (u : ℕ) → l.v ≤ u → get_or l.cell u 0 ≡ 0;
}
