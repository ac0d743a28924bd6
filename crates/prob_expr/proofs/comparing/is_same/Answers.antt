use Rattle.prob_expr.proofs.SameTrees.{same_tells}
use Rattle.prob_expr.proofs.comparing.is_same.Goals as goal

pub returns : goal.returns
returns c = rw (c.same_expr.ensures) (same_tells _ _)
