use Rattle.mixed_graph.specs.Vocabulary.{graph_of}
use Rattle.prob_expr.specs.Vocabulary.{masks_of}
use Rattle.prob_expr.specs.View.{view}
use Rattle.do_derivation.specs.Vocabulary.{step_view}
use Rattle.do_derivation.proofs.Exact.{steps_are_exact}
use Rattle.derivation_steps.proofs.tracing.made_by.Goals as goal

-- a step that is made isn't refused
pub unreachable-requires : goal.unreachable-requires
unreachable-requires c =
    let can = c.requires.made in
    (steps_are_exact (graph_of c.args.g.now) (masks_of c.args.lemmas.now) (step_view c.args.step.now) (view c.args.e)).not_both can.0 0
    c.in-Err-Step.field-0-0 c.in-Err-Step.field-0-1 can.1 (rw c.in-Err-Step.field-0-is at c.in-Err-Step.ensures.refused)
