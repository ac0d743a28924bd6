use Rattle.treated_id.proofs.theory.laws.Goals as goal
use Rattle.treated_id.proofs.Right.{formula_is_right}

pub returns : goal.returns
returns c = record { right = formula_is_right }
