use Rattle.treated_drawn.proofs.Both.{each_has_both_folded}
use Rattle.treated_drawn.proofs.Among.{right_among_is_drawn, joint_lost_is_drawn}
use Rattle.treated_drawn.proofs.Differing.{differing_is_drawn}
use Rattle.treated_drawn.proofs.Unfolding.{each_is_both_folded}
use Rattle.treated_drawn.proofs.theory.laws.Goals as goal

pub returns-clause-folded : goal.returns-clause-folded
returns-clause-folded c = each_has_both_folded

pub returns-clause-right : goal.returns-clause-right
returns-clause-right c = right_among_is_drawn

pub returns-clause-lost : goal.returns-clause-lost
returns-clause-lost c = joint_lost_is_drawn

pub returns-clause-unfolded : goal.returns-clause-unfolded
returns-clause-unfolded c = each_is_both_folded

pub returns-clause-differing : goal.returns-clause-differing
returns-clause-differing c = differing_is_drawn
