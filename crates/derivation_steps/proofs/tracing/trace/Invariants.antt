use Rattle.std.proofs.Common.{map, drop, length}
use Rattle.mixed_graph.specs.Vocabulary.{graph_of}
use Rattle.prob_expr.specs.Vocabulary.{masks_of}
use Rattle.prob_expr.specs.View.{view}
use Rattle.do_derivation.specs.Vocabulary.{step_view}
use Rattle.derivation_steps.proofs.Turns.{IsLeft}
use Rattle.derivation_steps.proofs.tracing.trace.Given as goal

abbrev pub invariant-loop-step : goal.invariant-loop-step
invariant-loop-step l = IsLeft (graph_of l.g) (masks_of l.lemmas) l.made.items (map step_view (drop (length l.yielded) l.fn.moves.items)) (view l.whole) (map step_view l.fn.moves.items)
    (view l.fn.start)
