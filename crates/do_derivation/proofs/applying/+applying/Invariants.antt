use Rattle.std.proofs.Common.{drop}
use Rattle.mixed_graph.specs.Vocabulary.{graph_of}
use Rattle.prob_expr.specs.Vocabulary.{masks_of}
use Rattle.prob_expr.specs.View.{view}
use Rattle.do_derivation.specs.View.{steps_view}
use Rattle.do_derivation.proofs.Turns.{IsLeft}
use Rattle.do_derivation.proofs.applying.+applying.Given as goal

abbrev pub invariant-apply_all-loop-i : goal.invariant-apply_all-loop-i
invariant-apply_all-loop-i l = IsLeft (graph_of l.g) (masks_of l.lemmas) (steps_view (drop l.i l.steps)) (view l.made) l.count (steps_view l.steps)
    (view l.initial.made) l.initial.count
