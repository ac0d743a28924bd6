use Rattle.natural_id.proofs.theory.laws.Goals as goal
use Rattle.natural_id.proofs.Districts.{natural_formula_is_right}
use Rattle.natural_id.proofs.One.{one_formula_by_parts}

pub returns-clause-right : goal.returns-clause-right
returns-clause-right c = natural_formula_is_right

pub returns-clause-one : goal.returns-clause-one
returns-clause-one c = one_formula_by_parts
