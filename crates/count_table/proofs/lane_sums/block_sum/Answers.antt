use Rattle.count_table.proofs.LaneLaws.{lanes_matched}
use Rattle.count_table.proofs.lane_sums.block_sum.Goals as goal

pub returns : goal.returns
returns c = lanes_matched c.args.at c.args.mask c.args.want c.args.counts.now c.args.codes.now c.requires.counts c.requires.codes c.requires.room
