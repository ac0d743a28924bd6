use Rattle.std.proofs.Common.{◌≡◌, map}
use Rattle.dag_reader.specs.Vocabulary.{count_up}
use Rattle.answer_json.specs.Vocabulary.{with_values}
use Rattle.separation_commands.specs.GraphObjects.{named_vertex_json}
use Rattle.separation_commands.proofs.graph.objects.push_vertices.Given as goal

abbrev pub invariant-loop-v : goal.invariant-loop-v
invariant-loop-v l = l.object ≡ with_values (map (named_vertex_json l.g) (count_up l.v)) l.fn.object
