use Rattle.std.proofs.Common.{◌≡◌}
use Rattle.prob_expr.specs.Vocabulary.{views}
use Rattle.do_derivation.specs.Shapes.{flat}
use Rattle.do_derivation.proofs.factors.flat.Given as goal

abbrev pub invariant-loop-factor : goal.invariant-loop-factor
invariant-loop-factor l = views l.made.items ≡ flat (views l.yielded)
