use Rattle.std.proofs.Common.{◌≡◌, drop}
use Rattle.prob_expr.specs.Vocabulary.{views}
use Rattle.answer_json.specs.Vocabulary.{with_values}
use Rattle.formula_json.specs.Trees.{trees_json}
use Rattle.formula_json.proofs.trees.+push.Given as goal

abbrev pub invariant-push_factors-loop-factor : goal.invariant-push_factors-loop-factor
invariant-push_factors-loop-factor l =
    with_values (trees_json l.names (views (drop l.factor-index l.factor-items))) l.object
    ≡ with_values (trees_json l.names (views l.factor-items)) l.fn.object
