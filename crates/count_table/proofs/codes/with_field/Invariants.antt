use Rattle.std.proofs.Common.{◌≡◌, ◌+◌, ◌*◌, ◌++◌, map, take}
use Rattle.std.specs.List.{flat_map, range_with_len}
use Rattle.count_table.specs.Codes.{room}
use Rattle.count_table.proofs.codes.with_field.Given as goal

abbrev pub invariant-codes : goal.invariant-codes
invariant-codes l = l.made.items ≡ flat_map (λ k. map (λ code. code * room l.levels + k) l.codes) (range_with_len 0 l.k)
    ++ map (λ code. code * room l.levels + l.k) (take l.code-index l.codes)

abbrev pub invariant-levels : goal.invariant-levels
invariant-levels l = l.made.items ≡ flat_map (λ k. map (λ code. code * room l.levels + k) l.codes) (range_with_len 0 l.k)
