use Rattle.treated_hedges.proofs.Excluding.{counter_models_exclude_among}
use Rattle.treated_hedges.proofs.theory.laws.Goals as goal

pub returns : goal.returns
returns c = record { excludes = counter_models_exclude_among }
