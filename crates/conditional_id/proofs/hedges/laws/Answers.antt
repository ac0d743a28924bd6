use Rattle.conditional_id.proofs.hedges.laws.Goals as goal
use Rattle.conditional_id.proofs.Excluding.{leaf_pairs_exclude}
use Rattle.conditional_id.proofs.Given.{hedges_exclude_given, hedges_exclude_turned, hedges_exclude_formula}
use Rattle.conditional_id.proofs.Models.{hedges_give_models}
use Rattle.conditional_id.proofs.TurnedModels.{hedges_give_models_turned}
use Rattle.conditional_id.proofs.Odds.{odds_fix_weights}

pub returns-clause-odds : goal.returns-clause-odds
returns-clause-odds c = odds_fix_weights

pub returns-clause-leaves : goal.returns-clause-leaves
returns-clause-leaves c = leaf_pairs_exclude

pub returns-clause-given : goal.returns-clause-given
returns-clause-given c = hedges_exclude_given

pub returns-clause-turned : goal.returns-clause-turned
returns-clause-turned c = hedges_exclude_turned

pub returns-clause-formula : goal.returns-clause-formula
returns-clause-formula c = hedges_exclude_formula

pub returns-clause-models : goal.returns-clause-models
returns-clause-models c = hedges_give_models

pub returns-clause-models_turned : goal.returns-clause-models_turned
returns-clause-models_turned c = hedges_give_models_turned
