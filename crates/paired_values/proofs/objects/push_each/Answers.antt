use Rattle.std.proofs.Common.{◌∙◌, ap}
use Rattle.primed_names.specs.Vocabulary.{primed_names}
use Rattle.evaluate_command.specs.Vocabulary.{plain_of}
use Rattle.paired_values.specs.Objects.{value_json}
use Rattle.paired_values.proofs.Walked.{next_value}
use Rattle.paired_values.proofs.objects.push_each.Goals as goal

pub loop-valued-preserved : goal.loop-valued-preserved
loop-valued-preserved g c =
    next_value c.args.values.now (λ v. value_json g.Q.Shown.IS_EXACT (g.A.ShownAtCells.levels c.args.answer.now c.args.names.now) (plain_of g.Q.Quantity.numbers v))
    c.loop-valued.valued-index c.valued-item.result c.loop-valued.object c.push_value.new.object _
    c.loop-valued-test.true c.valued-item.is c.loop-valued.invariant (c.in_ok-push_value.ensures (c.in_ok-all.ensures ∙ ap (primed_names c.args.names.now) c.treatment.ensures))
