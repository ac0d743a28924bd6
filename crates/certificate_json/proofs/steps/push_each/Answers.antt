use Rattle.std.proofs.Common.{◌^◌, ltb, decimal, get_or, length, map, refl, ap, arith}
use Rattle.json.specs.Json.{number}
use Rattle.certificate_json.specs.StepSizes.{are_below}
use Rattle.certificate_json.proofs.Keeping.{next_written, all_written, all_short}
use Rattle.certificate_json.proofs.steps.push_each.Goals as goal

pub loop-k-preserved : goal.loop-k-preserved
loop-k-preserved c =
    next_written (map (λ n. number (decimal n))) (λ n. number (decimal n)) (λ x xs. refl) (are_below (2 ^ 32)) (λ k. ltb k (2 ^ 32)) (λ x xs. refl)
    c.args.list.now.items c.loop-k.k-index c.args.object.now _ (get_or c.deref-k-items.result.now c.loop-k.k-index 0) 0 c.loop-k.object c.push_number.new.object
    c.deref-k-items.ensures.value c.loop-k-test.true refl
    c.in_ok-push_number.ensures.written c.push_number.ensures.short c.loop-k.invariant

pub returns-clause-written : goal.returns-clause-written
returns-clause-written c =
    all_written (map (λ n. number (decimal n))) (are_below (2 ^ 32)) c.args.list.now.items c.loop-k.k-index c.args.object.now c.loop-k.object refl
    (let e = ap length c.deref-k-items.ensures.value in omega arith) c.loop-k.invariant

pub returns-clause-short : goal.returns-clause-short
returns-clause-short c =
    all_short (map (λ n. number (decimal n))) (are_below (2 ^ 32)) c.args.list.now.items c.loop-k.k-index c.args.object.now c.loop-k.object refl
    (let e = ap length c.deref-k-items.ensures.value in omega arith) c.loop-k.invariant
