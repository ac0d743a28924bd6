use Rattle.std.proofs.Common.{◌≡◌, drop, map}
use Rattle.answer_json.specs.Vocabulary.{with_values, pair_json}
use Rattle.certificate_json.proofs.hedges.push_each.Given as goal

abbrev pub invariant-loop-pair : goal.invariant-loop-pair
invariant-loop-pair l = with_values (map (pair_json l.names) (drop l.pair-index l.pairs)) l.object ≡ with_values (map (pair_json l.names) l.pairs) l.fn.object
