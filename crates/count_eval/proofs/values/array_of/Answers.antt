use Rattle.std.proofs.Common.{◌<◌, ◌≢◌, ◌∙◌, length, get_or, get_or-set_other, get_or-set_same, below_more, arith}
use Rattle.count_eval.proofs.CellSteps.{zeros, length-zeros}
use Rattle.std.proofs.Math.ListN.{length-set}
use Rattle.count_eval.proofs.values.array_of.Goals as goal

pub loop-v-init : goal.loop-v-init
loop-v-init c = record { long = length-zeros 64; copied = λ u lt. absurd (omega arith); rest = λ u le. zeros 64 u }

pub loop-v-preserved : goal.loop-v-preserved
loop-v-preserved c =
    let cell = c.loop-v.cell in let v = c.loop-v.v in
    let long = c.loop-v.invariant.long in
    let within : v < length cell = omega (arith, long, c.requires, c.loop-v-test.true) in
    record {
      long = length-set cell v (get_or c.args.at.now v 0) ∙ long;
      copied = below_more _ _ (λ u h. let ne : u ≢ v = omega arith in rw get_or-set_other (c.loop-v.invariant.copied u h)) (rw get_or-set_same);
      rest = λ u le. let ne : u ≢ v = omega arith in rw get_or-set_other (c.loop-v.invariant.rest u (omega arith));
    }
