use Rattle.std.proofs.Common.{◌≡◌, map, drop}
use Rattle.answer_json.specs.Vocabulary.{with_values, pair_json}
use Rattle.graph_json.proofs.edges.push_each.Given as goal

-- the pairs that are still to come complete them all
abbrev pub invariant-loop-b : goal.invariant-loop-b
invariant-loop-b l = with_values (map (λ b. pair_json l.names (l.a, b)) (drop l.b-index l.ends)) l.object
    ≡ with_values (map (λ b. pair_json l.names (l.a, b)) l.ends) l.fn.object
