use Rattle.std.proofs.Common.{subst}
use Rattle.mixed_graph.specs.Vocabulary.{graph_of}
use Rattle.prob_expr.specs.Vocabulary.{target_view}
use Rattle.conditional_id.specs.Vocabulary.{IsRight}
use Rattle.interventional_id.proofs.identifying.formula_of.Goals as goal

pub returns-in-Formula : goal.returns-in-Formula
returns-in-Formula c = let r = subst (IsRight (graph_of c.args.g.now) (target_view c.args.t)) c.in-Formula.is c.in_ok-formula.ensures.right in
    record { formed = r.formed; do_free = r.do_free; effect = r.effect }

pub returns : goal.returns
returns c = (subst (IsRight (graph_of c.args.g.now) (target_view c.args.t)) c.in-Joint.is c.in_ok-formula.ensures.right).no_formula
