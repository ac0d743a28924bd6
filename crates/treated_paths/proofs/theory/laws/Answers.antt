use Rattle.treated_paths.proofs.theory.laws.Goals as goal
use Rattle.treated_paths.proofs.TwoValues.{two_values_split_joint}
use Rattle.treated_paths.proofs.Paths.{paths_differ_among, paths_exclude_among}

pub returns-clause-differ : goal.returns-clause-differ
returns-clause-differ c = paths_differ_among

pub returns-clause-exclude : goal.returns-clause-exclude
returns-clause-exclude c = paths_exclude_among

pub returns-clause-two : goal.returns-clause-two
returns-clause-two c = two_values_split_joint
