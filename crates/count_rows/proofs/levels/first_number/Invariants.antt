use Rattle.std.proofs.Common.{◌≡◌, ◌+◌, drop}
use Rattle.std.specs.List.{position_or_len}
use Rattle.std.specs.Str.{bytes_eq}
use Rattle.mixed_graph.specs.Vocabulary.{texts}
use Rattle.count_rows.proofs.levels.first_number.Given as goal

abbrev pub invariant-loop-k : goal.invariant-loop-k
invariant-loop-k l = position_or_len (bytes_eq l.level) (texts l.levels) ≡ l.k + position_or_len (bytes_eq l.level) (drop l.k (texts l.levels))
