use Rattle.std.proofs.Common.{sym, ◌∙◌, rules}
use Rattle.prob_expr.proofs.Views.{view-Product}
use Rattle.do_derivation.proofs.Walks
use Rattle.do_derivation.proofs.factors.as_one.Goals as goal

pub returns-then-len-ne1 : goal.returns-then-len-ne1
returns-then-len-ne1 c = view-Product c.args.factors ∙ sym (Walks.as_one_many c.args.factors.items (search rules))
