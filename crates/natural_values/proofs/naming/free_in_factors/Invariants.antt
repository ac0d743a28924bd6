use Rattle.prob_expr.specs.Vocabulary.{free_of}
use Rattle.natural_values.proofs.Uniting.{IsUpTo}
use Rattle.natural_values.proofs.naming.free_in_factors.Given as goal

abbrev pub invariant-loop-factor : goal.invariant-loop-factor
invariant-loop-factor l = IsUpTo (λ f. free_of f.formula) l.factors.factors.items l.factor-index l.all.bits
