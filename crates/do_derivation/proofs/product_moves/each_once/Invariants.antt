use Rattle.std.proofs.Common.{◌≡◌, true, eqb}
use Rattle.finite_models.specs.Vocabulary.{all_below}
use Rattle.do_derivation.specs.View.{numbers_of}
use Rattle.do_derivation.specs.Shapes.{times_in, all_of}
use Rattle.do_derivation.proofs.product_moves.each_once.Given as goal

abbrev pub invariant-loop-i : goal.invariant-loop-i
invariant-loop-i l = all_below l.i (λ i. eqb (times_in i (all_of (numbers_of l.groups.items))) 1) ≡ true
