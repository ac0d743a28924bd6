use Rattle.parts_drawn.proofs.Formulas.{treated_parts_are_drawn}
use Rattle.parts_drawn.proofs.Accepted.{accepted_among_make_up, accepted_nested_make_up}
use Rattle.parts_drawn.proofs.theory.laws.Goals as goal

pub returns-clause-parts : goal.returns-clause-parts
returns-clause-parts c = treated_parts_are_drawn

pub returns-clause-treated : goal.returns-clause-treated
returns-clause-treated c = accepted_among_make_up

pub returns-clause-natural : goal.returns-clause-natural
returns-clause-natural c = accepted_nested_make_up
