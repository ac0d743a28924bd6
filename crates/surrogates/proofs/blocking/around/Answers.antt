use Rattle.std.proofs.Common.{◌<◌, ◌≤◌, length}
use Rattle.prob_expr.specs.Vocabulary.{masks_of}
use Rattle.surrogates.specs.Common.{around}
use Rattle.surrogates.proofs.Together.{none_taken, next_taken, all_taken}
use Rattle.surrogates.proofs.blocking.around.Goals as goal

pub loop-z-init : goal.loop-z-init
loop-z-init c = none_taken (around c.args.c.bits (masks_of c.args.experiments.now))

pub loop-z-preserved : goal.loop-z-preserved
loop-z-preserved c =
    let lt : c.loop-z.z-index < length c.args.experiments.now = c.loop-z-test.true in
    next_taken c.args.c.bits c.loop-z.taken.bits c.taking-taken.result.bits c.args.experiments.now c.loop-z.z-index lt c.taking-taken.ensures c.loop-z.invariant

pub returns : goal.returns
returns c =
    let le : length c.args.experiments.now ≤ c.loop-z.z-index = c.loop-z-test.false in
    all_taken c.args.c.bits c.loop-z.taken.bits c.args.experiments.now c.loop-z.z-index le c.loop-z.invariant
