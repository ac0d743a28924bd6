use Rattle.std.proofs.Common.{◌≡◌, ◌&&◌, nat_lt}
use Rattle.mixed_graph.specs.Vocabulary.{graph_of}
use Rattle.graph_json.proofs.EdgeRows.{with_rows}
use Rattle.graph_json.proofs.edges.push_bidirected.Given as goal

abbrev pub invariant-loop-a : goal.invariant-loop-a
invariant-loop-a l = l.object ≡ with_rows l.names l.graph.n (λ a b. (graph_of l.graph).both a b && nat_lt a b) l.a l.fn.object
