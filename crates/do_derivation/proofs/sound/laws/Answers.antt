use Rattle.do_derivation.proofs.sound.laws.Goals as goal
use Rattle.do_derivation.proofs.Accepted.{accepted_is_effect, step_keeps_value}
use Rattle.do_derivation.proofs.Preserved.{step_keeps_terms}
use Rattle.do_derivation.proofs.Exact.{steps_are_exact, accepts_or_not}

pub returns : goal.returns
returns c = record {
  keeps_value = step_keeps_value;
  keeps_terms = step_keeps_terms;
  accepted_is_effect = accepted_is_effect;
  exact = steps_are_exact;
  accepted_or_not = accepts_or_not;
}
