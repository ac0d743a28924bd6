use Rattle.std.proofs.Common.{◌≡◌, drop, map}
use Rattle.prob_expr.specs.View.{view}
use Rattle.answer_json.specs.Vocabulary.{with_values}
use Rattle.certificate_json.specs.Certificates.{expr_json}
use Rattle.certificate_json.proofs.formulas.push_exprs.Given as goal

abbrev pub invariant-loop-e : goal.invariant-loop-e
invariant-loop-e l = with_values (map (expr_json l.names) (map view (drop l.e-index l.list.items))) l.object ≡ with_values
    (map (expr_json l.names) (map view l.list.items)) l.fn.object
