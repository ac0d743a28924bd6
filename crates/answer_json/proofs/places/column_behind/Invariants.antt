use Rattle.std.proofs.Common.{◌≡◌, ◌≤◌, ◌+◌, drop}
use Rattle.answer_json.specs.Faults.{column_behind}
use Rattle.answer_json.proofs.places.column_behind.Given as goal

abbrev pub invariant-loop-byte : goal.invariant-loop-byte
invariant-loop-byte l = (column_behind l.column (drop l.byte-index l.bytes) ≡ column_behind 1 l.bytes) × (l.column ≤ l.byte-index + 1) × (1 ≤ l.column)
