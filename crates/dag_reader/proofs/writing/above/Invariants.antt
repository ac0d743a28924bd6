use Rattle.std.proofs.Common.{◌≡◌, ◌<◌, ◌≤◌, ℕ, length, get_or}
use Rattle.std.specs.Prelude.{◌&&◌, nat_lt}
use Rattle.dag_reader.specs.Rows.{row_has}
use Rattle.dag_reader.proofs.writing.above.Given as goal

abbrev pub invariant-loop-v : goal.invariant-loop-v
invariant-loop-v l = record {
  done : (a b : ℕ) → a < l.v → row_has l.out a b ≡ (row_has l.rows a b && nat_lt a b);
  rest : (a : ℕ) → l.v ≤ a → get_or l.out a 0 ≡ 0;
  size : length l.out ≡ 64;
}
