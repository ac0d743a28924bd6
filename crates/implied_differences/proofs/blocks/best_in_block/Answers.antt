use Rattle.std.proofs.Common.{◌∙◌, arith}
use Rattle.implied_differences.proofs.BlockSums.{columns-total}
use Rattle.implied_differences.proofs.blocks.best_in_block.Goals as goal

pub strided_sum-given-requires-clause-room : goal.strided_sum-given-requires-clause-room
strided_sum-given-requires-clause-room c =
    let total = columns-total c.args.table.now.cells.now c.args.table.now.layout.now c.args.block.now.begin c.requires.block c.sum_columns.new.columns
    c.sum_columns.ensures in
    let few = c.requires.block.few in
    omega (arith, total, few)

pub best_in_row-best-requires-clause-given : goal.best_in_row-best-requires-clause-given
best_in_row-best-requires-clause-given c =
    c.strided_sum-given.ensures ∙ columns-total c.args.table.now.cells.now c.args.table.now.layout.now c.args.block.now.begin c.requires.block
    c.sum_columns.new.columns c.sum_columns.ensures
