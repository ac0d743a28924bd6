use Rattle.std.proofs.Common.{◌≡◌}
use Rattle.mixed_graph.specs.Vocabulary.{graph_of}
use Rattle.graph_json.proofs.EdgeRows.{with_rows}
use Rattle.graph_json.proofs.edges.push_directed.Given as goal

abbrev pub invariant-loop-a : goal.invariant-loop-a
invariant-loop-a l = l.object ≡ with_rows l.names l.graph.n (graph_of l.graph).arrow l.a l.fn.object
