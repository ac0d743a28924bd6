use Rattle.std.proofs.Common.{◌<◌, length, arith}
use Rattle.finite_models.specs.Worlds.{values_of}
use Rattle.finite_models.proofs.CauseValues.{values_at, positive_values}
use Rattle.finite_models.proofs.Numbering.{rest_next}
use Rattle.finite_models.proofs.worlds.cause_value.Goals as goal

pub nonzero_div-rest : goal.nonzero_div-rest
nonzero_div-rest c =
    let lt : c.loop-k.k < length c.args.m.now.causes.items = omega (arith, c.requires.below) in
    let e = values_at c.args.m.now.causes.items c.loop-k.k c.index.result.now c.len-rest.result lt c.index.ensures
    (let k = c.index.result.now.weights.ok in omega arith) in
    let p = positive_values c.args.m.now.causes.items c.requires.weight c.loop-k.k lt in
    omega arith

pub loop-k-preserved : goal.loop-k-preserved
loop-k-preserved c =
    let lt : c.loop-k.k < length c.args.m.now.causes.items = omega (arith, c.requires.below) in
    rest_next (values_of c.args.m.now.causes.items) c.args.world c.loop-k.k c.loop-k.rest c.len-rest.result
    (values_at c.args.m.now.causes.items c.loop-k.k c.index.result.now c.len-rest.result lt c.index.ensures
    (let k = c.index.result.now.weights.ok in omega arith)) c.loop-k.invariant

pub nonzero_rem-result : goal.nonzero_rem-result
nonzero_rem-result c =
    let e = values_at c.args.m.now.causes.items c.args.j c.index-2.result.now c.len.result c.requires.below c.index-2.ensures
    (let k = c.index-2.result.now.weights.ok in omega arith) in
    let p = positive_values c.args.m.now.causes.items c.requires.weight c.args.j c.requires.below in
    omega arith
