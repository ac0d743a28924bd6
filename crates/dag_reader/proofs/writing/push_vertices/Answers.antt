use Rattle.dag_reader.proofs.WrittenLines.{vertex_line}
use Rattle.dag_reader.proofs.writing.push_vertices.Goals as goal

pub loop-i-preserved : goal.loop-i-preserved
loop-i-preserved c =
    vertex_line c.loop-i.out.items c.push_vertex.new.out.items _ c.args.names.now c.args.roles.now c.loop-i.i _ c.get.result.now c.loop-i-test.true
    c.requires.roles
    c.get.ensures.name c.in_ok-push_vertex.ensures c.loop-i.invariant
