use Rattle.count_table.proofs.RowLaws.{eight_adds}
use Rattle.count_table.proofs.lane_sums.add_eight.Goals as goal

pub returns : goal.returns
returns c = eight_adds c.args.into.now c.args.cells.now c.args.at c.args.from c.requires.into c.requires.cells c.requires.room
