use Rattle.std.proofs.Common.{suc, ◌+◌, ◌*◌, ◌≡◌, get_or, ap, arith}
use Rattle.implied_differences.proofs.BlockSums.{part-most}
use Rattle.implied_differences.proofs.strips.add_line.Goals as goal

pub overflow_mul-offset : goal.overflow_mul-offset
overflow_mul-offset c = let less = c.requires.inside 0 c.loop-k.k c.requires.some (omega arith) in omega (arith, less)

pub overflow_add-offset : goal.overflow_add-offset
overflow_add-offset c = let less = c.requires.inside 0 c.loop-k.k c.requires.some (omega arith) in omega (arith, less)

pub add_cells-requires-clause-room : goal.add_cells-requires-clause-room
add_cells-requires-clause-room c j lt =
    let begin = get_or c.args.begins.now j 0 in
    let line = c.args.line in
    let e : begin + line.offset + c.loop-k.k * line.step ≡ begin + (line.offset + c.loop-k.k * line.step) = omega arith in
    let same = ap (λ n. get_or c.args.cells.now n 0) e in
    let so_far = c.loop-k.invariant.each j lt in
    let most = part-most line.count (suc c.loop-k.k) (λ z. get_or c.args.cells.now (begin + line.offset + z * line.step) 0) (omega arith) in
    let room = c.requires.room j lt in
    omega (arith, same, so_far, most, room)
