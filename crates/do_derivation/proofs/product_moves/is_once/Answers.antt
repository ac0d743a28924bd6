use Rattle.std.proofs.Common.{arith}
use Rattle.do_derivation.specs.View.{numbers_of}
use Rattle.do_derivation.specs.Shapes.{times_in, all_of}
use Rattle.do_derivation.proofs.Walks
use Rattle.do_derivation.proofs.product_moves.is_once.Goals as goal

pub returns-in-None : goal.returns-in-None
returns-in-None c =
    let step = Walks.times_more c.deref-group-items.result.now c.loop-group.group-index c.group-item.result (omega arith) c.group-item.is c.args.i in
    let two = c.in-None.ensures in
    let inv = c.loop-group.invariant in
    rw (← c.deref-group-items.ensures.value) (Walks.not_once (times_in c.args.i (all_of (numbers_of c.deref-group-items.result.now)))
    (omega (arith, step, two, inv)))

pub loop-group-preserved : goal.loop-group-preserved
loop-group-preserved c =
    let step = Walks.times_more c.deref-group-items.result.now c.loop-group.group-index c.group-item.result (omega arith) c.group-item.is c.args.i in
    let now = c.in-Some.ensures in
    let inv = c.loop-group.invariant in
    omega (arith, step, now, inv)
