use Rattle.crossed_bounds.proofs.laws.Goals as goal
use Rattle.crossed_bounds.proofs.Others.{sharper_is_tight, sharper_crossed_have_no_model, paired_crossed_have_no_model}
use Rattle.crossed_bounds.proofs.Sharper.{two_levels_bound, paired_is_natural, paired_is_levels}
use Rattle.crossed_bounds.proofs.Summed.{sharper_bounds_hold, paired_bounds_hold}

pub returns-clause-levels : goal.returns-clause-levels
returns-clause-levels c = two_levels_bound

pub returns-clause-tight : goal.returns-clause-tight
returns-clause-tight c = sharper_is_tight

pub returns-clause-effect : goal.returns-clause-effect
returns-clause-effect c = sharper_bounds_hold

pub returns-clause-crossed : goal.returns-clause-crossed
returns-clause-crossed c = sharper_crossed_have_no_model

pub returns-clause-paired : goal.returns-clause-paired
returns-clause-paired c = paired_bounds_hold

pub returns-clause-paired_tight : goal.returns-clause-paired_tight
returns-clause-paired_tight c end n q s = (paired_is_natural end n q s, paired_is_levels end n q s)

pub returns-clause-paired_crossed : goal.returns-clause-paired_crossed
returns-clause-paired_crossed c = paired_crossed_have_no_model
