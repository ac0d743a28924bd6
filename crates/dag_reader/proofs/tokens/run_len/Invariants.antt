use Rattle.std.proofs.Common.{◌≡◌, ◌+◌, ◌≤◌, length}
use Rattle.std.specs.List.{prefix_len}
use Rattle.dag_reader.specs.Bytes.{in_class}
use Rattle.dag_reader.proofs.tokens.run_len.Given as goal

abbrev pub invariant-loop-rest : goal.invariant-loop-rest
invariant-loop-rest l = record {
  within : length l.rest ≤ length l.bytes;
  run : prefix_len (in_class l.class) l.bytes + length l.rest ≡ length l.bytes + prefix_len (in_class l.class) l.rest;
}

abbrev pub decreases-loop-rest : goal.decreases-loop-rest
decreases-loop-rest l = length l.rest
