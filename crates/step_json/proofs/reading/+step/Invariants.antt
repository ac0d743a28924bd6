use Rattle.std.proofs.Common.{◌≡◌, ◌+◌, ◌*◌, drop, map, []}
use Rattle.serde_json.specs.View.{items_view}
use Rattle.do_derivation.specs.Vocabulary.{step_view}
use Rattle.step_json.specs.Reading.{each, step_within}
use Rattle.step_json.proofs.reading.+step.Given as goal

abbrev pub invariant-each_step-loop-d : goal.invariant-each_step-loop-d
invariant-each_step-loop-d l = each (step_within l.names l.more) (map step_view l.all.items) (items_view (drop l.d-index l.ds))
    ≡ each (step_within l.names l.more) [] (items_view l.ds)

abbrev pub decreases-step_within : goal.decreases-step_within
decreases-step_within l = 6 * l.more + 0

abbrev pub decreases-each_step : goal.decreases-each_step
decreases-each_step l = 6 * l.more + 1

abbrev pub decreases-on_child : goal.decreases-on_child
decreases-on_child l = 6 * l.more + 1

abbrev pub decreases-steps_in : goal.decreases-steps_in
decreases-steps_in l = 6 * l.more + 2

abbrev pub decreases-at_child : goal.decreases-at_child
decreases-at_child l = 6 * l.more + 2

abbrev pub decreases-then_each : goal.decreases-then_each
decreases-then_each l = 6 * l.more + 3

abbrev pub decreases-arguments : goal.decreases-arguments
decreases-arguments l = 6 * l.more + 4

abbrev pub decreases-word_and_arguments : goal.decreases-word_and_arguments
decreases-word_and_arguments l = 6 * l.more + 5
