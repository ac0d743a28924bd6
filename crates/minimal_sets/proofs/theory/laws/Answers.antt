use Rattle.minimal_sets.proofs.theory.laws.Goals as goal
use Rattle.minimal_sets.proofs.Exact.{minimal_is_exact}

pub returns : goal.returns
returns c = minimal_is_exact
