use Rattle.weak_adjustment.proofs.WeakEffects.{adjusts_matched, adjusts_weakly}
use Rattle.weak_adjustment.proofs.laws.Goals as goal

pub returns-clause-matched : goal.returns-clause-matched
returns-clause-matched c = adjusts_matched c.laws.ensures.effect

pub returns-clause-model : goal.returns-clause-model
returns-clause-model c = adjusts_weakly c.laws.ensures.effect
