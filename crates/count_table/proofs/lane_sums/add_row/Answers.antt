use Rattle.std.proofs.Common.{arith}
use Rattle.count_table.proofs.RowLaws.{adds_more, room_next}
use Rattle.count_table.proofs.lane_sums.add_row.Goals as goal

pub add_eight-requires-clause-room : goal.add_eight-requires-clause-room
add_eight-requires-clause-room c = room_next c.args.into.now c.eights.into c.args.cells.now c.args.at c.args.from c.eights.i c.args.inner
    c.eights.invariant.adds (omega arith) c.requires.room

pub eights-preserved : goal.eights-preserved
eights-preserved c = record {
  within = omega arith;
  long = omega arith;
  adds = adds_more c.args.into.now c.eights.into c.add_eight.new.into c.args.cells.now c.args.at c.args.from c.eights.i 8 c.eights.invariant.adds
      c.add_eight.ensures;
}
