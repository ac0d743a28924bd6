use Rattle.std.proofs.Common.{◌≢◌, replicate, refl, arith}
use Rattle.step_json.proofs.Copying.{blank_everywhere}
use Rattle.certificate.proofs.Tables.{stays_blank}
use Rattle.certificate.proofs.hedges.started.Goals as goal

pub invariant_of-result : goal.invariant_of-result
invariant_of-result c = record {
  in_range = omega arith;
  blank_found = λ i h. let other : i ≢ 0 = (λ e. omega arith) in stays_blank (replicate 64 0) 0 c.args.v i other (blank_everywhere 64 i);
  blank_partner = λ i h. blank_everywhere 64 i;
  start = refl;
}
