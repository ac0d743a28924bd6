use Rattle.std.proofs.Common.{◌≡◌, drop}
use Rattle.prob_expr.specs.Vocabulary.{target_view}
use Rattle.answer_json.specs.Vocabulary.{with_values}
use Rattle.evaluate_command.specs.Objects.{cells_json}
use Rattle.evaluate_command.proofs.objects.push_all.Given as goal

abbrev pub invariant-loop-valued : goal.invariant-loop-valued
invariant-loop-valued g l = with_values (cells_json g.Q.Quantity.numbers g.Q.Shown.IS_EXACT l.names (target_view l.target) l.counts
    (drop l.valued-index l.values)) l.object
    ≡ with_values (cells_json g.Q.Quantity.numbers g.Q.Shown.IS_EXACT l.names (target_view l.target) l.counts l.values) l.fn.object
