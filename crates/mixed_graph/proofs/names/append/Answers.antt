use Rattle.std.proofs.Common.{arith}
use Rattle.mixed_graph.proofs.NameBlocks.{cut_more, block_more}
use Rattle.mixed_graph.proofs.names.append.Goals as goal

pub returns-clause-ok : goal.returns-clause-ok
returns-clause-ok c = rw c.in_ok-append_line.ensures.ok
    (cut_more c.args.bytes.now.items c.args.ends.now c.args.name.now c.args.count c.in-Ok.end c.requires.block (omega arith) (omega arith))

pub returns-clause-block : goal.returns-clause-block
returns-clause-block c = rw c.in_ok-append_line.ensures.ok
    (block_more c.args.bytes.now.items c.args.ends.now c.args.name.now c.args.count c.in-Ok.end c.requires.block (omega arith) (omega arith) c.requires.room)
