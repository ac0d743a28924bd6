use Rattle.std.proofs.Common.{arith}
use Rattle.caller_memory.specs.Kept.{lines_of}
use Rattle.caller_memory.proofs.Feeds.{line_more}
use Rattle.caller_memory.proofs.kept.naming.lines.Goals as goal

pub loop-v-preserved : goal.loop-v-preserved
loop-v-preserved c =
    let few = c.count-v-end.ensures.names.few in
    let n = c.count-v-end.ensures.count in
    let below = c.loop-v-test.true in
    let more = line_more c.args.names.now c.loop-v.v c.get.result.now c.loop-v.text.items (lines_of c.args.names.now) (omega (arith, few, n, below))
    c.get.ensures.name c.loop-v.invariant in
    rw (c.in_ok-push.ensures.items, c.in_ok-extend_from_slice.ensures.items) more
