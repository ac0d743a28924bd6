use Rattle.std.proofs.Common.{suc, ◌+◌, ◌*◌, get_or, arith}
use Rattle.implied_differences.proofs.BlockSums.{part-most}
use Rattle.implied_differences.proofs.blocks.strided_sum.Goals as goal

pub overflow_add-sum-in-loop-k : goal.overflow_add-sum-in-loop-k
overflow_add-sum-in-loop-k c =
    let m = part-most c.args.count (suc c.loop-k.k) (λ k. get_or c.args.cells.now (c.args.begin + k * c.args.step) 0) (omega arith) in
    let room = c.requires.room in
    let so_far = c.loop-k.invariant in
    omega (arith, m, room, so_far)
