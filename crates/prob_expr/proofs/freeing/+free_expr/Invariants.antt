use Rattle.std.proofs.Common.{◌≡◌, drop}
use Rattle.prob_expr.specs.Listed.{masks_of}
use Rattle.prob_expr.specs.View.{views}
use Rattle.mixed_graph.specs.Vocabulary.{union}
use Rattle.prob_expr.specs.Free.{free_in_any}
use Rattle.prob_expr.proofs.freeing.+free_expr.Given as goal

abbrev pub invariant-free_factors-loop-factor : goal.invariant-free_factors-loop-factor
invariant-free_factors-loop-factor l = union l.free.bits (free_in_any (masks_of l.sets) (views (drop l.factor-index l.factor-items)))
    ≡ free_in_any (masks_of l.sets) (views l.factor-items)
