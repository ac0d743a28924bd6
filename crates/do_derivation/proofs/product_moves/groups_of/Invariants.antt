use Rattle.std.proofs.Common.{◌≡◌, drop}
use Rattle.prob_expr.specs.Vocabulary.{views}
use Rattle.do_derivation.specs.View.{numbers_of}
use Rattle.do_derivation.specs.Shapes.{groups_of, appended}
use Rattle.do_derivation.proofs.product_moves.groups_of.Given as goal

abbrev pub invariant-loop-group : goal.invariant-loop-group
invariant-loop-group l = appended (views l.made.items) (groups_of (views l.factors.items) (numbers_of (drop l.group-index l.group-items)))
    ≡ groups_of (views l.factors.items) (numbers_of l.group-items)
