use Rattle.natural_bounds.proofs.theory.laws.Goals as goal
use Rattle.natural_bounds.proofs.Drawn.{bounding_is_as_drawn, no_model_is_as_drawn}
use Rattle.natural_bounds.proofs.Effects.{bounds_hold}
use Rattle.natural_bounds.proofs.Natural.{natural_lower, natural_upper}
use Rattle.natural_bounds.proofs.Orders.{tightest_is_tightest, tightest_is_one}
use Rattle.natural_bounds.proofs.Strata.{crossed_have_no_model}

pub returns-clause-lower : goal.returns-clause-lower
returns-clause-lower c = natural_lower

pub returns-clause-upper : goal.returns-clause-upper
returns-clause-upper c = natural_upper

pub returns-clause-tightest : goal.returns-clause-tightest
returns-clause-tightest c = tightest_is_tightest

pub returns-clause-one : goal.returns-clause-one
returns-clause-one c = tightest_is_one

pub returns-clause-effect : goal.returns-clause-effect
returns-clause-effect c = bounds_hold

pub returns-clause-crossed : goal.returns-clause-crossed
returns-clause-crossed c = crossed_have_no_model

pub returns-clause-drawn : goal.returns-clause-drawn
returns-clause-drawn c = bounding_is_as_drawn

pub returns-clause-none_drawn : goal.returns-clause-none_drawn
returns-clause-none_drawn c = no_model_is_as_drawn
