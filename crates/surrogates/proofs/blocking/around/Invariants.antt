use Rattle.std.proofs.Common.{◌≡◌, drop}
use Rattle.mixed_graph.specs.Vocabulary.{union}
use Rattle.prob_expr.specs.Vocabulary.{masks_of}
use Rattle.surrogates.specs.Common.{around}
use Rattle.surrogates.proofs.blocking.around.Given as goal

abbrev pub invariant-loop-z : goal.invariant-loop-z
invariant-loop-z l = union l.taken.bits (around l.c.bits (masks_of (drop l.z-index l.experiments))) ≡ around l.c.bits (masks_of l.experiments)
