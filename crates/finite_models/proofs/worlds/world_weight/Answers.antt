use Rattle.std.proofs.Common.{◌<◌, ◌%◌, length, get_or, arith}
use Rattle.finite_models.specs.Data.{weights_of}
use Rattle.finite_models.specs.Worlds.{values_of, value_in_world}
use Rattle.finite_models.proofs.CauseValues.{values_at, positive_values, weight_at, weights_within}
use Rattle.finite_models.proofs.Numbering.{rest_next, product_next}
use Rattle.finite_models.proofs.worlds.world_weight.Goals as goal

pub nonzero_rem-rest : goal.nonzero_rem-rest
nonzero_rem-rest c =
    let lt : c.loop-j.j < length c.args.m.now.causes.items = (let k = c.args.m.now.causes.ok in omega arith) in
    let e = values_at c.args.m.now.causes.items c.loop-j.j c.index-c.result.now c.len.result lt c.index-c.ensures
    (let k = c.index-c.result.now.weights.ok in omega arith) in
    let p = positive_values c.args.m.now.causes.items c.requires.weight c.loop-j.j lt in
    omega arith

pub index-requires : goal.index-requires
index-requires c =
    let lt : c.loop-j.j < length c.args.m.now.causes.items = (let k = c.args.m.now.causes.ok in omega arith) in
    let e = values_at c.args.m.now.causes.items c.loop-j.j c.index-c.result.now c.len.result lt c.index-c.ensures
    (let k = c.index-c.result.now.weights.ok in omega arith) in
    let p = positive_values c.args.m.now.causes.items c.requires.weight c.loop-j.j lt in
    let d : c.loop-j.rest % c.len.result < c.len.result = omega arith in
    omega arith

pub overflow_mul-weight : goal.overflow_mul-weight
overflow_mul-weight c =
    let lt : c.loop-j.j < length c.args.m.now.causes.items = (let k = c.args.m.now.causes.ok in omega arith) in
    let e = values_at c.args.m.now.causes.items c.loop-j.j c.index-c.result.now c.len.result lt c.index-c.ensures
    (let k = c.index-c.result.now.weights.ok in omega arith) in
    let p = positive_values c.args.m.now.causes.items c.requires.weight c.loop-j.j lt in
    let w = weight_at c.args.m.now.causes.items c.args.world c.loop-j.j c.index-c.result.now c.loop-j.rest c.len.result c.from-weight.result c.index.result.now
    lt c.index-c.ensures e p c.loop-j.invariant.rest c.from-weight.ensures c.index.ensures (let k = c.index-c.result.now.weights.ok in omega arith) in
    let le = weights_within c.args.m.now.causes.items c.requires.weight c.args.world c.loop-j.j lt c.loop-j.weight c.from-weight.result
    c.loop-j.invariant.weight w in
    let t = c.requires.fits in
    omega arith

pub nonzero_div-rest : goal.nonzero_div-rest
nonzero_div-rest c =
    let lt : c.loop-j.j < length c.args.m.now.causes.items = (let k = c.args.m.now.causes.ok in omega arith) in
    let e = values_at c.args.m.now.causes.items c.loop-j.j c.index-c.result.now c.len-rest.result lt c.index-c.ensures
    (let k = c.index-c.result.now.weights.ok in omega arith) in
    let p = positive_values c.args.m.now.causes.items c.requires.weight c.loop-j.j lt in
    omega arith

pub loop-j-preserved : goal.loop-j-preserved
loop-j-preserved c =
    let lt : c.loop-j.j < length c.args.m.now.causes.items = (let k = c.args.m.now.causes.ok in omega arith) in
    let e = values_at c.args.m.now.causes.items c.loop-j.j c.index-c.result.now c.len.result lt c.index-c.ensures
    (let k = c.index-c.result.now.weights.ok in omega arith) in
    let p = positive_values c.args.m.now.causes.items c.requires.weight c.loop-j.j lt in
    record {
      rest = rest_next (values_of c.args.m.now.causes.items) c.args.world c.loop-j.j c.loop-j.rest c.len-rest.result
          (values_at c.args.m.now.causes.items c.loop-j.j c.index-c.result.now c.len-rest.result lt c.index-c.ensures
          (let k = c.index-c.result.now.weights.ok in omega arith)) c.loop-j.invariant.rest;
      weight = product_next c.loop-j.j (λ j. get_or (weights_of c.args.m.now.causes.items j) (value_in_world c.args.m.now.causes.items c.args.world j) 0)
          c.loop-j.weight c.from-weight.result c.loop-j.invariant.weight
          (weight_at c.args.m.now.causes.items c.args.world c.loop-j.j c.index-c.result.now c.loop-j.rest c.len.result c.from-weight.result c.index.result.now
          lt c.index-c.ensures e p c.loop-j.invariant.rest c.from-weight.ensures c.index.ensures (let k = c.index-c.result.now.weights.ok in omega arith));
    }
