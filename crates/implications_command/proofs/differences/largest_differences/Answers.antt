use Rattle.std.proofs.Common.{◌+◌, take, refl, sym, subst}
use Rattle.mixed_graph.specs.Vocabulary.{graph_of}
use Rattle.implications_command.specs.Differences.{AreMeasured}
use Rattle.implications_command.specs.Pairs.{pairs_in}
use Rattle.implications_command.proofs.Measuring.{measured_more}
use Rattle.implications_command.proofs.Using.{readable_in}
use Rattle.implications_command.proofs.differences.largest_differences.Goals as goal

pub largest_difference-requires : goal.largest_difference-requires
largest_difference-requires c =
    readable_in (pairs_in c.args.seen.now c.args.list.now) c.requires.pairs c.args.counts.now c.used-used.ensures.table c.requires.used
    c.args.list.now refl c.loop-i.i-index _ c.loop-i-test.true

pub loop-i-preserved : goal.loop-i-preserved
loop-i-preserved c =
    let q = graph_of c.args.seen.now.graph in let t = c.args.counts.now in let list = c.args.list.now in let k = c.loop-i.i-index in
    subst (AreMeasured q t (take (k + 1) list)) (sym c.in_ok-push.ensures.items)
    (measured_more q t list k _ c.loop-i.all.items _ c.loop-i-test.true refl c.in_ok-difference.ensures.largest
    (c.in_ok-difference.ensures.matched q c.args.seen.now.graph.valid (c.requires.pairs.implications.each k _ c.loop-i-test.true)) c.loop-i.invariant)
