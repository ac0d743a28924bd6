use Rattle.std.proofs.Common.{◌≡◌, arith, length, subst}
use Rattle.count_table.proofs.AxisLaws.{block_fits, room_here, row_more, next_block, IsSummed}
use Rattle.count_table.proofs.lane_sums.axis_sum.Goals as goal

pub overflow_mul-o-in-rows : goal.overflow_mul-o-in-rows
overflow_mul-o-in-rows c =
    let l = block_fits c.args.outer c.args.axis c.args.inner c.blocks_of.o c.rows.a (length c.args.cells.now)
    c.requires.cells c.blocks_of-test.true c.rows-test.true (omega arith) in
    record { fits = omega (arith, l) }

pub overflow_add-o : goal.overflow_add-o
overflow_add-o c =
    let l = block_fits c.args.outer c.args.axis c.args.inner c.blocks_of.o c.rows.a (length c.args.cells.now)
    c.requires.cells c.blocks_of-test.true c.rows-test.true (omega arith) in
    record { fits = omega (arith, l) }

pub add_row-requires-clause-room : goal.add_row-requires-clause-room
add_row-requires-clause-room c = room_here c.rows.into c.args.cells.now c.args.outer c.args.axis c.args.inner c.blocks_of.o c.rows.a c.requires.cells
    c.requires.room c.blocks_of-test.true c.rows-test.true c.rows.invariant

pub rows-preserved : goal.rows-preserved
rows-preserved c = row_more c.rows.into c.add_row.new.into c.args.cells.now c.args.outer c.args.axis c.args.inner c.blocks_of.o c.rows.a c.blocks_of-test.true
    (omega arith) c.rows.invariant c.add_row.ensures

pub blocks_of-preserved : goal.blocks_of-preserved
blocks_of-preserved c =
    let end : c.rows.a ≡ c.args.axis = omega arith in
    next_block c.rows.into c.args.cells.now c.args.outer c.args.axis c.args.inner c.blocks_of.o
    (subst (λ a. IsSummed c.rows.into c.args.cells.now c.args.outer c.args.axis c.args.inner c.blocks_of.o a) end c.rows.invariant) c.blocks_of-test.true
