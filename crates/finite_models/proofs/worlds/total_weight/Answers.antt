use Rattle.std.proofs.Common.{◌≡◌, ◌<◌, ◌*◌, ◌≤◌, ◌∙◌, length, arith}
use Rattle.finite_models.specs.Sums.{product_below}
use Rattle.finite_models.specs.Worlds.{weight_sum}
use Rattle.finite_models.proofs.CauseValues.{sum_at, sums_within, none_from}
use Rattle.finite_models.proofs.Numbering.{product_next}
use Rattle.finite_models.proofs.worlds.total_weight.Goals as goal

pub returns-in_err-total : goal.returns-in_err-total
returns-in_err-total c =
    let lt : c.loop-j.j < length c.args.m.now.causes.items = (let k = c.args.m.now.causes.ok in omega arith) in
    let e = sum_at c.args.m.now.causes.items c.loop-j.j c.index.result.now c.deref.result.now c.sum_of.result lt c.index.ensures c.deref.ensures.value
    c.sum_of.ensures in
    let w = sums_within c.args.m.now.causes.items c.requires c.loop-j.j lt in
    let le : c.loop-j.total * c.sum_of.result ≤ product_below (length c.args.m.now.causes.items) (weight_sum c.args.m.now.causes.items) =
    rw (e, c.loop-j.invariant.so_far) w in
    none_from c.checked_mul.result c.from_residual.result (c.loop-j.total * c.sum_of.result)
    (product_below (length c.args.m.now.causes.items) (weight_sum c.args.m.now.causes.items))
    c.in_err-total.was c.from_residual.ensures c.checked_mul.ensures le

pub loop-j-preserved : goal.loop-j-preserved
loop-j-preserved c =
    let lt : c.loop-j.j < length c.args.m.now.causes.items = (let k = c.args.m.now.causes.ok in omega arith) in
    let h = c.in_ok-total.ensures in
    record {
      so_far = h.1 ∙ product_next c.loop-j.j (weight_sum c.args.m.now.causes.items) c.loop-j.total c.sum_of.result c.loop-j.invariant.so_far
          (sum_at c.args.m.now.causes.items c.loop-j.j c.index.result.now c.deref.result.now c.sum_of.result lt c.index.ensures c.deref.ensures.value
          c.sum_of.ensures);
      small = rw h.1 h.0;
    }

pub returns : goal.returns
returns c =
    let k = c.args.m.now.causes.ok in
    let e : c.loop-j.j ≡ length c.args.m.now.causes.items = omega arith in
    let h : c.loop-j.total ≡ product_below (length c.args.m.now.causes.items) (weight_sum c.args.m.now.causes.items) = rw (← e) c.loop-j.invariant.so_far in
    (rw (← h) c.loop-j.invariant.small, h)
