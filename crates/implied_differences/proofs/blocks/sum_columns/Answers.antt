use Rattle.std.proofs.Common.{suc, subst, ◌<◌, arith}
use Rattle.implied_differences.specs.Blocks.{value_at}
use Rattle.implied_differences.proofs.BlockSums.{part-most, column_few}
use Rattle.implied_differences.proofs.blocks.sum_columns.Goals as goal

pub overflow_mul-x : goal.overflow_mul-x
overflow_mul-x c = let less = c.requires.block.inside c.loop-x.x 0 (omega arith) c.requires.block.some in omega (arith, less)

pub overflow_add-begin : goal.overflow_add-begin
overflow_add-begin c = let less = c.requires.block.inside c.loop-x.x 0 (omega arith) c.requires.block.some in omega (arith, less)

pub add_strided-requires-clause-room : goal.add_strided-requires-clause-room
add_strided-requires-clause-room c k lt =
    let below = subst (λ n. k < n) c.loop-x.invariant.long lt in
    let so_far = c.loop-x.invariant.each k below in
    let most = part-most c.args.table.now.layout.now.firsts (suc c.loop-x.x)
    (λ z. value_at c.args.table.now.cells.now c.args.table.now.layout.now c.args.begin z k) (omega arith) in
    let few = column_few c.args.table.now.cells.now c.args.table.now.layout.now c.args.begin c.requires.block k below in
    omega (arith, so_far, most, few)
