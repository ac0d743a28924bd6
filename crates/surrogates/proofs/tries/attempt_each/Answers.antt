use Rattle.std.proofs.Common.{◌<◌, ◌≤◌, length, subst}
use Rattle.mixed_graph.specs.Vocabulary.{graph_of}
use Rattle.surrogates.specs.Tries.{AllTriedInVain, IsAttempt}
use Rattle.surrogates.proofs.Passing.{first_here, passed_next, masks_all}
use Rattle.surrogates.proofs.tries.attempt_each.Goals as goal

pub returns-in-Some : goal.returns-in-Some
returns-in-Some c =
    let lt : c.loop-z.z-index < length c.args.experiments.now = c.loop-z-test.true in
    let is = subst (IsAttempt (graph_of c.args.g.now) _ c.args.c.bits c.args.first) c.in-Some.is c.in-Ok.ensures in
    first_here c.args.experiments.now c.loop-z.z-index lt (graph_of c.args.g.now) c.args.c.bits c.args.first c.in-Some.factor c.loop-z.invariant is.0 is.1

pub loop-z-preserved : goal.loop-z-preserved
loop-z-preserved c =
    let lt : c.loop-z.z-index < length c.args.experiments.now = c.loop-z-test.true in
    passed_next c.args.experiments.now c.loop-z.z-index lt (graph_of c.args.g.now) c.args.c.bits c.loop-z.invariant
    (subst (IsAttempt (graph_of c.args.g.now) _ c.args.c.bits c.args.first) c.in-None.is c.in-Ok.ensures)

pub returns : goal.returns
returns c =
    let le : length c.args.experiments.now ≤ c.loop-z.z-index = c.loop-z-test.false in
    subst (AllTriedInVain (graph_of c.args.g.now) c.args.c.bits) (masks_all c.args.experiments.now c.loop-z.z-index le) c.loop-z.invariant
