use Rattle.std.proofs.Common.{◌≡◌, drop, map}
use Rattle.answer_json.specs.Vocabulary.{with_values}
use Rattle.hedge_json.specs.Models.{bit_json}
use Rattle.hedge_json.proofs.bits.push_all.Given as goal

abbrev pub invariant-loop-v : goal.invariant-loop-v
invariant-loop-v l =
    with_values (map (bit_json l.names l.bit) (drop l.v-index l.vertices)) l.object ≡ with_values (map (bit_json l.names l.bit) l.vertices) l.fn.object
