use Rattle.dag_reader.proofs.WrittenLines.{edge_line}
use Rattle.dag_reader.proofs.writing.push_edges.Goals as goal

pub loop-edge-preserved : goal.loop-edge-preserved
loop-edge-preserved c =
    edge_line c.loop-edge.out.items c.push_edge.new.out.items _ c.args.sign.now c.args.names.now c.args.edges.now c.loop-edge.edge-index _ c.get.result.now
    c.get-in-loop-edge.result.now c.loop-edge-test.true
    c.get.ensures.name c.get-in-loop-edge.ensures.name c.in_ok-push_edge.ensures c.loop-edge.invariant
