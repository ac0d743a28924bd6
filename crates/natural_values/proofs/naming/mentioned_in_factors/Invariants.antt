use Rattle.prob_expr.specs.Mentioned.{mentioned}
use Rattle.natural_values.proofs.Uniting.{IsUpTo}
use Rattle.natural_values.proofs.naming.mentioned_in_factors.Given as goal

abbrev pub invariant-loop-factor : goal.invariant-loop-factor
invariant-loop-factor l = IsUpTo (λ f. mentioned f.formula) l.factors.factors.items l.factor-index l.all.bits
