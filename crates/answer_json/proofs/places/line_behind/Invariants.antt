use Rattle.std.proofs.Common.{◌≡◌, ◌≤◌, ◌+◌, drop}
use Rattle.answer_json.specs.Faults.{line_behind}
use Rattle.answer_json.proofs.places.line_behind.Given as goal

abbrev pub invariant-loop-byte : goal.invariant-loop-byte
invariant-loop-byte l = (line_behind l.line (drop l.byte-index l.bytes) ≡ line_behind 1 l.bytes) × (l.line ≤ l.byte-index + 1)
