use Rattle.natural_drawn.proofs.Folding.{each_has_nested_folded}
use Rattle.natural_drawn.proofs.Matched.{each_has_nested_matched}
use Rattle.natural_drawn.proofs.Formulas.{right_parts_are_drawn, right_nested_is_drawn}
use Rattle.natural_drawn.proofs.Nil.{no_indirect_path_is_drawn, no_direct_path_is_drawn}
use Rattle.natural_drawn.proofs.Lost.{nested_lost_is_drawn}
use Rattle.natural_drawn.proofs.Differing.{nested_difference_is_drawn}
use Rattle.natural_drawn.proofs.theory.laws.Goals as goal

pub returns-clause-folded : goal.returns-clause-folded
returns-clause-folded c = each_has_nested_folded

pub returns-clause-matched : goal.returns-clause-matched
returns-clause-matched c = each_has_nested_matched

pub returns-clause-parts : goal.returns-clause-parts
returns-clause-parts c = right_parts_are_drawn

pub returns-clause-right : goal.returns-clause-right
returns-clause-right c = right_nested_is_drawn

pub returns-clause-lost : goal.returns-clause-lost
returns-clause-lost c = nested_lost_is_drawn

pub returns-clause-differ : goal.returns-clause-differ
returns-clause-differ c = nested_difference_is_drawn

pub returns-clause-no_indirect : goal.returns-clause-no_indirect
returns-clause-no_indirect c = no_indirect_path_is_drawn

pub returns-clause-no_direct : goal.returns-clause-no_direct
returns-clause-no_direct c = no_direct_path_is_drawn
