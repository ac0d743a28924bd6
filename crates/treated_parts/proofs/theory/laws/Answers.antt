use Rattle.treated_parts.proofs.theory.laws.Goals as goal
use Rattle.treated_parts.proofs.Values.{treated_parts_are_right}

pub returns : goal.returns
returns c = treated_parts_are_right
