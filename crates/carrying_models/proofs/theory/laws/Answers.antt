use Rattle.carrying_models.proofs.theory.laws.Goals as goal
use Rattle.carrying_models.proofs.Differing.{witness_differs, split_differs, witness_excludes_nested, split_excludes_nested}
use Rattle.carrying_models.proofs.Split.{split_is_apart}
use Rattle.carrying_models.proofs.Witness.{witness_is_apart}

pub returns-clause-witness : goal.returns-clause-witness
returns-clause-witness c = witness_is_apart

pub returns-clause-split : goal.returns-clause-split
returns-clause-split c = split_is_apart

pub returns-clause-witness_differs : goal.returns-clause-witness_differs
returns-clause-witness_differs c = witness_differs

pub returns-clause-split_differs : goal.returns-clause-split_differs
returns-clause-split_differs c = split_differs

pub returns-clause-witness_excludes : goal.returns-clause-witness_excludes
returns-clause-witness_excludes c = witness_excludes_nested

pub returns-clause-split_excludes : goal.returns-clause-split_excludes
returns-clause-split_excludes c = split_excludes_nested
