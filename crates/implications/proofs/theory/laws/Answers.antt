use Rattle.implications.proofs.Listing.{separable_is_independent}
use Rattle.implications.proofs.OtherAncestors.{other_ancestors_separate}
use Rattle.implications.proofs.theory.laws.Goals as goal

pub returns-clause-ancestors : goal.returns-clause-ancestors
returns-clause-ancestors c = other_ancestors_separate

pub returns-clause-models : goal.returns-clause-models
returns-clause-models c = separable_is_independent
