use Rattle.std.proofs.Common.{◌≡◌, drop}
use Rattle.answer_json.specs.Vocabulary.{with_values}
use Rattle.hedge_json.specs.Models.{vertex_values}
use Rattle.hedge_json.proofs.models.push_vertices.Given as goal

abbrev pub invariant-loop-v : goal.invariant-loop-v
invariant-loop-v l = with_values (vertex_values l.names l.v (drop l.v l.mechanisms)) l.object ≡ with_values (vertex_values l.names 0 l.mechanisms) l.fn.object
