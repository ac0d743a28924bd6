use Rattle.std.proofs.Common.{◌≡◌, drop}
use Rattle.do_derivation.specs.View.{numbers_of}
use Rattle.do_derivation.specs.Shapes.{none_empty}
use Rattle.do_derivation.proofs.product_moves.none_empty.Given as goal

abbrev pub invariant-loop-group : goal.invariant-loop-group
invariant-loop-group l = none_empty (numbers_of (drop l.group-index l.group-items)) ≡ none_empty (numbers_of l.group-items)
