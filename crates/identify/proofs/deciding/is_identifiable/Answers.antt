use Rattle.std.proofs.Common.{◌≡◌, true, false}
use Rattle.mixed_graph.specs.Vocabulary.{graph_of}
use Rattle.identify.specs.Deciding.{HasRightFormula, HasRightHedge}
use Rattle.identify.proofs.Existing.{exact_yes, exact_no, has_formula, has_hedge}
use Rattle.identify.proofs.deciding.is_identifiable.Goals as goal
use Rattle.identify.proofs.deciding.is_identifiable.Goals.{After-is_none}

yes : (c : After-is_none) → c.is_none.result ≡ true → HasRightFormula (graph_of c.args.g.now) c.args.x.bits c.args.y.bits
yes c e = has_formula (graph_of c.args.g.now) c.args.x.bits c.args.y.bits c.find_hedge.result c.is_none.result c.is_none.ensures
    c.find_hedge.ensures.formula e

no : (c : After-is_none) → c.is_none.result ≡ false → HasRightHedge (graph_of c.args.g.now) c.args.x.bits c.args.y.bits
no c e = has_hedge (graph_of c.args.g.now) c.args.x.bits c.args.y.bits c.find_hedge.result c.is_none.result c.is_none.ensures
    c.find_hedge.ensures.models e

pub returns-clause-yes : goal.returns-clause-yes
returns-clause-yes c = let at = (goal.at.returns-clause-yes c).After-is_none in
    exact_yes (graph_of c.args.g.now) c.args.g.now.valid c.args.x.bits c.args.y.bits c.is_none.result (yes at) (no at)

pub returns-clause-no : goal.returns-clause-no
returns-clause-no c = let at = (goal.at.returns-clause-no c).After-is_none in
    exact_no (graph_of c.args.g.now) c.args.g.now.valid c.args.x.bits c.args.y.bits c.is_none.result (yes at) (no at)

pub returns-clause-formula : goal.returns-clause-formula
returns-clause-formula c = yes (goal.at.returns-clause-formula c).After-is_none

pub returns-clause-hedge : goal.returns-clause-hedge
returns-clause-hedge c = no (goal.at.returns-clause-hedge c).After-is_none
