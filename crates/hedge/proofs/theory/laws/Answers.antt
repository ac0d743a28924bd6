use Rattle.hedge.proofs.Shaping.{hedge_has_sets, sets_form_hedge}
use Rattle.hedge.proofs.theory.laws.Goals as goal

pub returns-clause-sets : goal.returns-clause-sets
returns-clause-sets c = hedge_has_sets

pub returns-clause-forms : goal.returns-clause-forms
returns-clause-forms c = sets_form_hedge
