use Rattle.std.proofs.Common.{◌≡◌, drop}
use Rattle.prob_expr.specs.Vocabulary.{views}
use Rattle.do_derivation.specs.Shapes.{chained, appended}
use Rattle.do_derivation.proofs.term_moves.chained.Given as goal

abbrev pub invariant-loop-v : goal.invariant-loop-v
invariant-loop-v l = appended (views l.factors.items) (chained l.fn.doing.bits l.known.bits (drop l.v-index l.list))
    ≡ chained l.fn.doing.bits l.fn.given.bits l.list
