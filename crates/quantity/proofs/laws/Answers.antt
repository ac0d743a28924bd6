use Rattle.std.proofs.Common.{sym, ◌∙◌}
use Rattle.quantity.specs.Laws.Gcd.{gcd_is, gcd_zero}
use Rattle.quantity.specs.Laws.Interval.{bounds_keep}
use Rattle.quantity.proofs.LcmLaws.{lcm_is}
use Rattle.quantity.proofs.TextSteps.{length-eighteen_digits}
use Rattle.quantity.proofs.laws.Goals as goal

pub returns : goal.returns
returns c = record {
  greatest = gcd_is;
  least = lcm_is;
  zero = λ q e. sym (gcd_zero q) ∙ e;
  enclose = bounds_keep;
  digits = length-eighteen_digits;
}
