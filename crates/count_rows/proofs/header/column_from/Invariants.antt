use Rattle.std.proofs.Common.{◌≡◌, ◌+◌, drop}
use Rattle.std.specs.List.{position_or_len}
use Rattle.std.specs.Str.{bytes_eq}
use Rattle.count_rows.proofs.header.column_from.Given as goal

abbrev pub invariant-loop-at : goal.invariant-loop-at
invariant-loop-at l = l.fn.from + position_or_len (bytes_eq l.fn.name) (drop l.fn.from l.fn.header) ≡ l.at
    + position_or_len (bytes_eq l.fn.name) (drop l.at l.fn.header)
