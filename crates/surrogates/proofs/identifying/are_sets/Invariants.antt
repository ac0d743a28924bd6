use Rattle.std.proofs.Common.{◌≡◌, drop}
use Rattle.do_derivation.specs.Vocabulary.{are_sets}
use Rattle.prob_expr.specs.Vocabulary.{masks_of}
use Rattle.surrogates.proofs.identifying.are_sets.Given as goal

abbrev pub invariant-loop-set : goal.invariant-loop-set
invariant-loop-set l = are_sets l.n (masks_of (drop l.set-index l.sets)) ≡ are_sets l.n (masks_of l.sets)
