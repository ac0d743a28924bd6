use Rattle.certificate.proofs.Tables.{none_above}
use Rattle.certificate.proofs.hedges.no_choice.Goals as goal

pub invariant_of-result : goal.invariant_of-result
invariant_of-result c = record { in_range = none_above }
