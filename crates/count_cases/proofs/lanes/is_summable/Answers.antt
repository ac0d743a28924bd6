use Rattle.std.proofs.Common.{◌<◌, ◌^◌, ◌∙◌, ap, sum, subst, take_all, arith}
use Rattle.count_cases.proofs.lanes.is_summable.Goals as goal

pub returns : goal.returns
returns c _ =
    let all = take_all c.loop-number.number-index c.args.numbers.now (omega (arith, c.loop-number-test.false)) in
    subst (λ s. s < 2 ^ 64) (c.loop-number.invariant.1 ∙ ap sum all) c.loop-number.invariant.0
