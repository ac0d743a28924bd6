use Rattle.broken_pairs.proofs.Walking.{on_true, on_false, one_more, first_here, none_at_all}
use Rattle.broken_pairs.proofs.broken.first_in.Goals as goal

pub returns-then-branch-clause-first : goal.returns-then-branch-clause-first
returns-then-branch-clause-first c = first_here c.args.c.now c.args.list.now c.loop-i.i-index _ c.loop-i-test.true c.loop-i.invariant
    (on_true _ c.in_ok-is_broken.field-0 c.in_ok-is_broken.ensures.yes c.if-branch.true)

pub loop-i-preserved : goal.loop-i-preserved
loop-i-preserved c = one_more c.args.c.now c.args.list.now c.loop-i.i-index _ c.loop-i-test.true c.loop-i.invariant
    (on_false _ c.in_ok-is_broken.field-0 c.in_ok-is_broken.ensures.no c.if-branch.false)

pub returns-clause-first : goal.returns-clause-first
returns-clause-first c = none_at_all c.args.c.now c.args.list.now c.loop-i.i-index c.loop-i-test.false c.loop-i.invariant
