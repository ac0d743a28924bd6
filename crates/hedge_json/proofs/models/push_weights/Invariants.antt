use Rattle.std.proofs.Common.{◌≡◌, drop, map, decimal}
use Rattle.json.specs.Json.{string}
use Rattle.answer_json.specs.Vocabulary.{with_values}
use Rattle.hedge_json.proofs.models.push_weights.Given as goal

abbrev pub invariant-loop-weight : goal.invariant-loop-weight
invariant-loop-weight l =
    with_values (map (λ w. string (decimal w)) (drop l.weight-index l.weights)) l.object ≡ with_values (map (λ w. string (decimal w)) l.weights) l.fn.object
